-- What is answered with 40 names the first item that does not keep every rule, and its first broken rule, with rule 1 what listing that item
-- refuses; what is refused is what opening refuses.
use Rattle.std.specs.Prelude.{Result, Ok, Err}
use Prim.Native.Nat.{ℕ, ◌<◌}
use mathlib.Core.Path.{◌≡◌, refl, sym, ap, ◌∙◌, subst}
use mathlib.Core.Logic.{inl, inr, ◌↔◌}
use mathlib.Core.List.{List}
use mathlib.Core.Bool.{false}
use native.Mathlib.Omega.{arith}
use Rattle.layout.specs.declared.refusal.Refusal.{Refusal}
use Rattle.layout.specs.declared.table.Table.{Table}
use Rattle.layout.specs.Table.{open_table}
use Rattle.read_chain.specs.Chain.{Joined, key_of}
use Rattle.read_listing.specs.Listing.{key_at, listed}
use Rattle.read_listing.proofs.AnswerLaws.{list_key}
use Rattle.check_rules.specs.declared.checked.Checked.{Checked}
use Rattle.check_rules.specs.Rules.{key_lists, broken_rule, first_broken, explained, check_in, check_opened, check_table}
use Rattle.check_rules.specs.Broken.{Breaks, BrokenAt, NamesTheFirst, UnlistedWhy}
use Rattle.check_rules.proofs.KeepLaws.{breaks_none_keeps, keeps_breaks_none, breaks_number, broken_breaks}
use Rattle.check_table.proofs.FirstLaws.{broken_first, first_broken_lem}
use Rattle.check_rules.proofs.RuleLaws.{explained_other}
use Rattle.read_find.specs.Find.{Manner}
use Rattle.check_table.proofs.ExplainLaws.{One, explained_cases, explained-one, one-explained, never_refused, never_unlisted}

module _ (manner : Manner) (file : List ℕ) (start end : ℕ) where
  found_at : (t : Table) {broken item : ℕ} → open_table file start end ≡ Ok t
      → first_broken (broken_rule manner file t) t.count 0 ≡ Checked.Broken broken item → BrokenAt manner file start end broken item
  found_at t {broken} {item} is e =
      let f = broken_first (broken_rule manner file t) t.count 0 e in
      record {
        table = t;
        opens = is;
        below = omega (arith, f.high);
        before = λ k h. breaks_none_keeps manner file t k (f.before k (omega arith) h);
        breaks = broken_breaks manner file t item f.is f.some;
      }

  first_one : (t : Table) {broken item : ℕ} → Breaks manner file t item broken → broken ≡ 1 → key_lists file t item ≡ false
  first_one t (Breaks.first a) e = a
  first_one t (Breaks.second a b) e = absurd (omega arith)
  first_one t (Breaks.third a b c) e = absurd (omega arith)
  first_one t (Breaks.fourth a b c d) e = absurd (omega arith)
  first_one t (Breaks.fifth a b c d f) e = absurd (omega arith)
  first_one t (Breaks.sixth a b c d f g) e = absurd (omega arith)

  -- an answer that stays as it is, of rule 1, would be of a key that lists
  stays_other : (t : Table) (c : Checked) {broken item : ℕ} → first_broken (broken_rule manner file t) t.count 0 ≡ c → explained file t c ≡ c → c ≡ Checked.Broken broken item
      → broken ≡ 1 → ⊥
  stays_other t c {broken} {item} is stays e one =
      let f = broken_first (broken_rule manner file t) t.count 0 (is ∙ e) in
      let rule-one : c ≡ Checked.Broken 1 item = e ∙ ap (λ (n : ℕ). Checked.Broken n item) one in
      one-explained file t item (first_one t (broken_breaks manner file t item f.is f.some) one) (subst (λ (d : Checked). explained file t d ≡ d) rule-one stays)

  broken_at : {broken item : ℕ} (o : Result Table Refusal) → open_table file start end ≡ o → check_opened manner file o ≡ Checked.Broken broken item
      → BrokenAt manner file start end broken item × (broken ≡ 1 → ⊥)
  unfolding check_opened check_in
  broken_at {broken} {item} (Ok t) is e = by_case (first_broken (broken_rule manner file t) t.count 0) refl e
    where
      by_case : (c : Checked) → first_broken (broken_rule manner file t) t.count 0 ≡ c → explained file t c ≡ Checked.Broken broken item
          → BrokenAt manner file start end broken item × (broken ≡ 1 → ⊥)
      by_case c found f = elim (explained_cases file t c) [
        | inl same ↦ (found_at t is (found ∙ sym same ∙ f), stays_other t c found same (sym same ∙ f))
        | inr one ↦ absurd (let says = one.says in let z : ◌≡◌ {A = ℕ} 0 1 = cc in omega arith)
      ]
  broken_at (Err why) is e = let z : ◌≡◌ {A = ℕ} 0 1 = cc in absurd (omega arith)

  unlisted_at : {why : Refusal} {item : ℕ} (o : Result Table Refusal) → open_table file start end ≡ o → check_opened manner file o ≡ Checked.Unlisted why item
      → BrokenAt manner file start end 1 item × (key_at file start end item ≡ Joined.broken why)
  unfolding check_opened check_in
  unlisted_at {why} {item} (Ok t) is e = by_case (first_broken (broken_rule manner file t) t.count 0) refl e
    where
      by_one : (c : Checked) → first_broken (broken_rule manner file t) t.count 0 ≡ c → One file t c (Checked.Unlisted why item)
          → BrokenAt manner file start end 1 item × (key_at file start end item ≡ Joined.broken why)
      by_one c found one =
          let says = one.says in
          let there : one.item ≡ item = cc in
          let same : one.why ≡ why = cc in
          let first : first_broken (broken_rule manner file t) t.count 0 ≡ Checked.Broken 1 item = found ∙ one.first ∙ ap (λ (i : ℕ). Checked.Broken 1 i) there in
          let below : item < t.count = omega (arith, (broken_first (broken_rule manner file t) t.count 0 first).high) in
          (found_at t is first, list_key file start end item 0 is below ∙ ap (λ (i : ℕ). key_of file t t.count i) (sym there) ∙ one.key ∙ ap Joined.broken same)

      by_case : (c : Checked) → first_broken (broken_rule manner file t) t.count 0 ≡ c → explained file t c ≡ Checked.Unlisted why item
          → BrokenAt manner file start end 1 item × (key_at file start end item ≡ Joined.broken why)
      by_case c found f = elim (explained_cases file t c) [
        | inl same ↦ absurd (never_unlisted (broken_rule manner file t) t.count 0 (found ∙ sym same ∙ f))
        | inr one ↦ by_one c found (subst (One file t c) f one)
      ]
  unlisted_at (Err why) is e = let z : ◌≡◌ {A = ℕ} 0 1 = cc in absurd (omega arith)

  number_some : (t : Table) {broken item : ℕ} → Breaks manner file t item broken → broken ≡ 0 → ⊥
  number_some t (Breaks.first a) e = omega arith
  number_some t (Breaks.second a b) e = omega arith
  number_some t (Breaks.third a b c) e = omega arith
  number_some t (Breaks.fourth a b c d) e = omega arith
  number_some t (Breaks.fifth a b c d f) e = omega arith
  number_some t (Breaks.sixth a b c d f g) e = omega arith

  pub at_broken : {broken item : ℕ} (b : BrokenAt manner file start end broken item) → check_table manner file start end ≡ explained file b.table (Checked.Broken broken item)
  unfolding check_table check_opened check_in
  at_broken {broken} {item} b =
      let t = b.table in
      rw b.opens (ap (explained file t) (first_broken_lem (broken_rule manner file t) t.count 0 (record {
        low = omega arith;
        high = omega (arith, b.below);
        is = breaks_number manner file t item b.breaks;
        some = number_some t b.breaks;
        before = λ k low h. keeps_breaks_none manner file t k (b.before k h);
      })))

pub names_the_first : NamesTheFirst
unfolding check_table
names_the_first manner file start end item = (
  λ broken. (
    broken_at manner file start end (open_table file start end) refl,
    λ (b, other). at_broken manner file start end b ∙ sym (explained_other file b.table item broken other),
  ),
  λ why. (
    unlisted_at manner file start end (open_table file start end) refl,
    λ (b, key). at_broken manner file start end b ∙ explained-one file b.table item (sym (list_key file start end item 0 b.opens b.below) ∙ key),
  ),
)

-- what listing refuses comes before the room is looked at
pub unlisted_why : UnlistedWhy
unfolding listed
unlisted_why manner file start end item room why e = rw (((names_the_first manner file start end item).1 why).0 e).1

opened_refused : (manner : Manner) (file : List ℕ) (o : Result Table Refusal) {why : Refusal} → check_opened manner file o ≡ Checked.Refused why → o ≡ Err why
unfolding check_opened check_in
opened_refused manner file (Ok t) {why} e = absurd (by_case (first_broken (broken_rule manner file t) t.count 0) refl e)
  where
    by_case : (c : Checked) → first_broken (broken_rule manner file t) t.count 0 ≡ c → explained file t c ≡ Checked.Refused why → ⊥
    by_case c found f = elim (explained_cases file t c) [
      | inl same ↦ never_refused (broken_rule manner file t) t.count 0 (found ∙ sym same ∙ f)
      | inr one ↦ let says = one.says in let z : ◌≡◌ {A = ℕ} 0 1 = cc in omega arith
    ]
opened_refused manner file (Err why) e = cc

-- the check is refused just where opening is, for the same reason
pub refused_as_opening : (manner : Manner) (file : List ℕ) (start end : ℕ) (why : Refusal)
    → (check_table manner file start end ≡ Checked.Refused why) ↔ (open_table file start end ≡ Err why)
unfolding check_table check_opened
refused_as_opening manner file start end why = (opened_refused manner file (open_table file start end), λ e. rw e)
