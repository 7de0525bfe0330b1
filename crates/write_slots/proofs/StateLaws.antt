-- What a memory that keeps the rules of a write says of each item, and the tables that it means, by their items.
use mathlib.Core.Path.{◌≡◌, sym, ap, ◌∙◌}
use mathlib.Core.Bool.{Bool, true, false, ◌&&◌, ◌||◌, not}
use mathlib.Core.Logic.{◌⊎◌, inl, inr, ⊎_elim}
use mathlib.Core.List.{List, []}
use Prim.Native.Nat.{ℕ, ◌+◌, ◌-◌, ◌≤◌, ◌<◌}
use native.Mathlib.Omega.{arith}
use borrow.Author.Tests.{eqb-true, eq-eqb, leb-true}
use lib.Dec.{eqb, leb}
use lib.ListN.{length, take}
use lib.Seq.{take_all}
use Rattle.words.specs.Choice.{pick}
use Rattle.key_hash.specs.Hash.{hash_of}
use Rattle.words.proofs.ChoiceLaws.{both, either, clash, lt_or_ge}
use Rattle.layout.specs.Limits.{longest_key, most_tables}
use Rattle.layout.specs.Item.{no_item}
use Rattle.layout.specs.Kind.{value_kind, table_kind, container_kind}
use Rattle.model.specs.Table.{Content, Entry, entry_at, no_entry, rows_of}
use Rattle.build_memory.specs.Memory.{item_total, room_used, item_table, item_hash, key_start, key_size, item_parent, item_kind, value_start, value_size, item_guest, key_of, Valid}
use Rattle.build_memory.specs.Meaning.{content_of, entry_of, meaning}
use Rattle.build_memory.proofs.MeaningLaws.{length-listed, listed_at, listed_past, key_length}
use Rattle.build_rules.specs.Valid.{table_known, key_within, key_short, kind_valid, value_within, ranges_valid, item_valid, fully_valid}
use Rattle.build_rules.proofs.ValidFacts.{whole_facts}
use Rattle.write_numbers.specs.Roster.{state_of}

-- ---- the rules, as facts

-- an item's parent: none, or an item made before it, of its table, with a shorter key
pub record Below (ws : List ℕ) (i : ℕ) : Type 0 where
  pub earlier : item_parent ws i ≤ i
  pub same : item_table ws (item_parent ws i - 1) ≡ item_table ws i
  pub shorter : key_size ws (item_parent ws i - 1) ≤ key_size ws i

pub record Right (ws ar : List ℕ) : Type 0 where
  pub valid : Valid ws (length ar)
  pub table : (i : ℕ) → i < item_total ws → item_table ws i < most_tables
  pub key : (i : ℕ) → i < item_total ws → key_start ws i + key_size ws i ≤ length ar
  pub short : (i : ℕ) → i < item_total ws → key_size ws i ≤ longest_key
  pub kind : (i : ℕ) → i < item_total ws → (item_kind ws i ≡ value_kind) ⊎ ((item_kind ws i ≡ table_kind) ⊎ (item_kind ws i ≡ container_kind))
  pub value : (i : ℕ) → i < item_total ws → item_kind ws i ≡ value_kind → value_start ws i + value_size ws i ≤ length ar
  pub hash : (i : ℕ) → i < item_total ws → item_hash ws i ≡ hash_of (key_of ws ar i)
  pub parent : (i : ℕ) → i < item_total ws → (item_parent ws i ≡ 0 → ⊥) → Below ws i
  pub guest : (i : ℕ) → i < item_total ws → item_kind ws i ≡ table_kind → item_guest ws i < most_tables

kind_cases : (k : ℕ) → (eqb k value_kind || (eqb k table_kind || eqb k container_kind)) ≡ true → (k ≡ value_kind) ⊎ ((k ≡ table_kind) ⊎ (k ≡ container_kind))
kind_cases k e =
    ⊎_elim (λ v. inl (eqb-true k value_kind v))
    (λ r. ⊎_elim (λ t. inr (inl (eqb-true k table_kind t))) (λ c. inr (inr (eqb-true k container_kind c))) (either (eqb k table_kind) (eqb k container_kind) r))
    (either (eqb k value_kind) (eqb k table_kind || eqb k container_kind) e)

unless_not : (p q : Bool) → (not p || q) ≡ true → p ≡ true → q ≡ true
unless_not true q e h = e
unless_not false q e h = clash (sym h)

begins_shorter : (a b : List ℕ) → take (length a) b ≡ a → length a ≤ length b
begins_shorter a b e =
    ⊎_elim
    (λ less. let same : length b ≡ length a = ap length (sym (take_all (length a) b (omega arith)) ∙ e) in omega arith)
    (λ more. more)
    (lt_or_ge (length b) (length a))

module _ (ws ar : List ℕ) (i : ℕ) (right : item_valid ws ar i ≡ true) where
  last : (kind_valid ws i && value_within ws i) ≡ true
  unfolding item_valid ranges_valid
  last = (both (key_short ws i) _ (both (key_within ws i) _ (both (table_known ws i) _ (both (ranges_valid ws i) _ right).0).1).1).1

  kind_one : (item_kind ws i ≡ value_kind) ⊎ ((item_kind ws i ≡ table_kind) ⊎ (item_kind ws i ≡ container_kind))
  unfolding kind_valid
  kind_one = kind_cases (item_kind ws i) (both (kind_valid ws i) (value_within ws i) last).0

  value_inside : item_kind ws i ≡ value_kind → value_start ws i + value_size ws i ≤ room_used ws
  unfolding value_within
  value_inside e = leb-true _ _ (unless_not (eqb (item_kind ws i) value_kind) (leb (value_start ws i + value_size ws i) (room_used ws)) (both (kind_valid ws i) (value_within ws i) last).1 (eq-eqb _ _ e))

pub fully_valid_lem : (ws ar : List ℕ) → fully_valid ws ar ≡ true → Right ws ar
fully_valid_lem ws ar whole =
    let w = whole_facts ws ar whole in
    let s = w.facts in
    let size : (i : ℕ) → i < item_total ws → length (key_of ws ar i) ≡ key_size ws i = λ i l. key_length ws ar i (omega (arith, w.key i l, s.used)) in
    record {
      valid = s;
      table = λ i l. omega (arith, w.table i l, s.tables);
      key = λ i l. omega (arith, w.key i l, s.used);
      short = w.short;
      kind = λ i l. kind_one ws ar i (w.valid i l);
      value = λ i l e. omega (arith, value_inside ws ar i (w.valid i l) e, s.used);
      hash = w.hash;
      parent = λ i l n.
          let f = w.parent i l n in
          record {
            earlier = f.earlier;
            same = f.same;
            shorter = omega (arith, begins_shorter _ _ f.begins, size i l, size (item_parent ws i - 1) (omega (arith, f.earlier)));
          };
      guest = λ i l k. omega (arith, (w.guest i l k).known, s.tables);
    }

-- ---- the tables that are meant, by their items

module _ (ws ar : List ℕ) where
  entry_is : (i : ℕ) → i < item_total ws → entry_at (meaning ws ar).items i ≡ entry_of ws ar i
  unfolding entry_at meaning
  entry_is i l = listed_at (entry_of ws ar) no_entry (item_total ws) i l

  module _ (t : ℕ) where
    pub content_is : (i : ℕ) → i < item_total ws → (state_of ws ar t).content i ≡ content_of ws ar i
    unfolding state_of rows_of entry_of
    content_is i l = ap (λ (e : Entry). e.content) (entry_is i l)

    pub above_is : (i : ℕ) → i < item_total ws → (state_of ws ar t).above i ≡ pick (eqb (item_parent ws i) 0) no_item (item_parent ws i - 1)
    unfolding state_of rows_of entry_of
    above_is i l = ap (λ (e : Entry). e.above) (entry_is i l)

    pub content_past : (i : ℕ) → item_total ws ≤ i → (state_of ws ar t).content i ≡ Content.bytes []
    unfolding state_of rows_of entry_at meaning
    content_past i l = ap (λ (e : Entry). e.content) (listed_past (entry_of ws ar) no_entry (item_total ws) i l)

  pub table_is : (i : ℕ) → i < item_total ws → (entry_at (meaning ws ar).items i).table ≡ item_table ws i
  unfolding entry_of
  table_is i l = ap (λ (e : Entry). e.table) (entry_is i l)

  pub total_is : length (meaning ws ar).items ≡ item_total ws
  unfolding meaning
  total_is = length-listed (entry_of ws ar) (item_total ws)
