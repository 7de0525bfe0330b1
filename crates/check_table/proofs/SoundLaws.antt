-- The check passes exactly the sound tables: a table that lies in the file and whose items keep every rule is sound, and the other way
-- round.
use Rattle.std.specs.Prelude.{Result, Ok, Err, Some}
use Rattle.layout.specs.declared.refusal.Refusal.{Refusal}
use Prim.Native.Nat.{ℕ, ◌<◌}
use mathlib.Core.Path.{◌≡◌, refl, sym, ap, ◌∙◌, subst}
use mathlib.Core.Logic.{inl, inr}
use mathlib.Core.List.{List}
use mathlib.Core.Bool.{Bool, true, false}
use native.Mathlib.Omega.{arith}
use borrow.Author.Tests.{eqb-true, eq-eqb}
use Rattle.words.specs.Choice.{pick}
use Rattle.words.proofs.ChoiceLaws.{pick_with, both_hold}
use Rattle.words.proofs.BelowLaws.{below_all}
use Rattle.layout.specs.declared.table.Table.{Table}
use Rattle.layout.specs.Table.{open_table, InFile}
use Rattle.layout.specs.Item.{item_at}
use Rattle.layout.proofs.OpenLaws.{opened_in_file}
use Rattle.read_chain.specs.Chain.{parent_of}
use Rattle.check_rules.specs.declared.checked.Checked.{Checked}
use Rattle.read_listing.specs.Children.{child_at, child_count}
use Rattle.check_rules.specs.Rules.{key_lists, key_finds, among, children_good, lists_it, parent_keeps, parent_good, broken_rule, first_broken, explained, check_in, check_opened, check_table}
use Rattle.check_table.specs.Sound.{InList, SoundIn, SoundTable, PassesExactlyTheSound}
use Rattle.check_rules.specs.Broken.{Keeps}
use Rattle.check_rules.proofs.KeepLaws.{breaks_none_keeps, keeps_breaks_none}
use Rattle.check_table.proofs.FirstLaws.{sound_none, none_sound}
use Rattle.check_table.proofs.ExplainLaws.{sound_explained}
use Rattle.read_find.specs.Find.{Manner}
use Rattle.check_table.proofs.RuleWords.{key_reads, reads_lists, reads_finds, value_good, good_kind, good_value, child_good_lem, good_child, among_at, at_among, children_of_lem, not-before, same_place, up_true, RootOrContained, parent_is, parent_up, few_items}

-- what the rules say together, of a table that lies in the file
module _ (manner : Manner) (file : List ℕ) (t : Table) (inside : InFile file t) where
  module _ (keeps : (i : ℕ) → i < t.count → Keeps manner file t i) where
    -- rule 5 of the container, and rule 6 of the child
    listed_child : (i j : ℕ) → i < t.count → (item_at file t i).kind ≡ 76 → InList file (item_at file t i) j → (j < t.count) × ((item_at file t j).parent ≡ i)
    listed_child i j h is (k, l, e) =
        let good = child_good_lem file t i (item_at file t i).from k (children_of_lem file t i (item_at file t i) is (keeps i h).five k l) in
        (subst (λ (n : ℕ). n < t.count) e good.0, subst (λ (n : ℕ). (item_at file t n).parent ≡ i) e good.1)

    child_among : (i j : ℕ) → i < t.count → j < t.count → (item_at file t j).parent ≡ i → InList file (item_at file t i) j
    unfolding parent_good parent_keeps
    child_among i j h l e =
        let up : parent_of t.count (item_at file t j).parent ≡ Ok (Some i) = ap (parent_of t.count) e ∙ parent_up file t j i h (few_items inside) in
        let kept : lists_it file j (item_at file t i) ≡ true = rw up at (keeps j l).six in
        among_at file (item_at file t i).from (child_count (item_at file t i)) j (up_true file j (item_at file t i) kept).1

    rules_sound : SoundIn manner file t
    unfolding key_lists key_finds parent_good
    rules_sound = record {
      keys = λ i h. key_reads manner file t i _ refl (keeps i h).one (keeps i h).two;
      values = λ i h. value_good file (item_at file t i) (keeps i h).four;
      parents = λ i h. parent_is file t i (item_at file t i).parent (keeps i h).six;
      lists = λ i j h is. (listed_child i j h is, λ child. child_among i j h child.0 child.1);
      once = λ i k l h is kn ln same.
          let good = children_of_lem file t i (item_at file t i) is (keeps i h).five in
          same_place k l (not-before file t i (item_at file t i).from k l (good l ln) same) (not-before file t i (item_at file t i).from l k (good k kn) (sym same));
    }

  module _ (s : SoundIn manner file t) where
    once_new : (i k : ℕ) → i < t.count → (item_at file t i).kind ≡ 76 → k < child_count (item_at file t i)
        → among file (item_at file t i).from k (child_at file (item_at file t i).from k) ≡ false
    once_new i k h is l = by_case (among file (item_at file t i).from k (child_at file (item_at file t i).from k)) refl
      where
        by_case : (b : Bool) → among file (item_at file t i).from k (child_at file (item_at file t i).from k) ≡ b
            → among file (item_at file t i).from k (child_at file (item_at file t i).from k) ≡ false
        by_case true found =
            let (m, less, same) = among_at file (item_at file t i).from k _ found in
            let again : m ≡ k = s.once i m k h is (omega arith) l same in
            absurd (omega arith)
        by_case false none = none

    sound_children : (i : ℕ) → i < t.count → children_good file t i (item_at file t i) ≡ true
    unfolding children_good
    sound_children i h = pick_with (λ b. b ≡ true) _ _ _
        (λ container.
        let is = eqb-true _ _ container in
        below_all _ _ (λ k l.
        let child = (s.lists i (child_at file (item_at file t i).from k) h is).0 (k, l, refl) in
        good_child file t i (item_at file t i).from k child.0 child.1 (once_new i k h is l)))
        (λ _. refl)

    sound_among : (i : ℕ) → i < t.count → (item_at file t i).parent < t.count → (item_at file t (item_at file t i).parent).kind ≡ 76
        → lists_it file i (item_at file t (item_at file t i).parent) ≡ true
    unfolding lists_it
    sound_among i h below is =
        let p = (item_at file t i).parent in
        let (k, l, e) = (s.lists p i below is).1 (h, refl) in
        both_hold (eq-eqb _ _ is) (both_hold (good_value file (item_at file t p) (s.values p below)) (at_among file (item_at file t p).from (child_count (item_at file t p)) i k l e))

    sound_parent : (i : ℕ) → i < t.count → RootOrContained file t (item_at file t i).parent → parent_good file t i (item_at file t i) ≡ true
    unfolding parent_good parent_keeps parent_of pick
    sound_parent i h (inl root) = rw (eq-eqb _ _ root)
    sound_parent i h (inr (below, is)) = rw (parent_up file t i (item_at file t i).parent below (few_items inside)) (sound_among i h below is)

    sound_rules : (i : ℕ) → i < t.count → Keeps manner file t i
    sound_rules i h =
        let (key, is, found) = s.keys i h in
        record {
          one = reads_lists file t i is;
          two = reads_finds manner file t i is found;
          three = good_kind file (item_at file t i) (s.values i h);
          four = good_value file (item_at file t i) (s.values i h);
          five = sound_children i h;
          six = sound_parent i h (s.parents i h);
        }

-- ---- the theorem

module _ (manner : Manner) (file : List ℕ) (start end : ℕ) where
  check_sound : (o : Result Table Refusal) → open_table file start end ≡ o → check_opened manner file o ≡ Checked.Sound → SoundTable manner file start end
  unfolding check_opened check_in SoundTable
  check_sound (Ok t) is e = (
    t,
    is,
    rules_sound manner file t (opened_in_file file start end is)
        (λ i h. breaks_none_keeps manner file t i (sound_none (broken_rule manner file t) t.count 0 (sound_explained file t e) i (omega arith) (omega arith))),
  )
  check_sound (Err why) is e = let z : ◌≡◌ {A = ℕ} 0 1 = cc in absurd (omega arith)

  sound_check : SoundTable manner file start end → check_table manner file start end ≡ Checked.Sound
  unfolding check_table check_opened check_in explained SoundTable
  sound_check (t, is, s) =
      rw is (ap (explained file t) (none_sound (broken_rule manner file t) t.count 0
      (λ i _ h. keeps_breaks_none manner file t i (sound_rules manner file t (opened_in_file file start end is) s i (omega arith)))))

pub passes_exactly_the_sound : PassesExactlyTheSound
unfolding check_table
passes_exactly_the_sound manner file start end = (check_sound manner file start end (open_table file start end) refl, sound_check manner file start end)

-- a table without items passes if it opens
pub empty_passes : (manner : Manner) (file : List ℕ) (start end : ℕ) {t : Table} → open_table file start end ≡ Ok t → t.count ≡ 0
    → check_table manner file start end ≡ Checked.Sound
unfolding check_table check_opened check_in explained first_broken
empty_passes manner file start end e none = rw (e, none)
