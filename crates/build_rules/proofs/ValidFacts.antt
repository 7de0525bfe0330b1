-- What the rules that a write judges say, as plain facts.
use Prim.Native.Nat.{ℕ, ◌+◌, ◌-◌, ◌≤◌, ◌<◌}
use native.Mathlib.Omega.{arith}
use mathlib.Core.Path.{◌≡◌, sym}
use mathlib.Core.Bool.{true, not}
use mathlib.Core.List.{List}
use borrow.Author.Tests.{eqb-true, eq-eqb, ne_eqb, ltb-true, leb-true}
use lib.ListN.{length, take}
use lib.Dec.{eqb, ltb, leb}
use Rattle.words.specs.Below.{all_below}
use Rattle.key_hash.specs.Hash.{hash_of}
use Rattle.words.proofs.ChoiceLaws.{both}
use Rattle.words.proofs.BelowLaws.{all_below_lem}
use Rattle.text.specs.Utf8.{is_utf8}
use Rattle.key_order.proofs.CompareLaws.{same_equal}
use Rattle.layout.specs.Limits.{longest_key}
use Rattle.layout.specs.Item.{no_item}
use Rattle.layout.specs.Kind.{table_kind}
use Rattle.build_memory.specs.Memory.{word, links, link_at, table_total, item_total, room_used, table_placed, table_height, item_table, item_hash, key_start, key_size, item_parent, item_kind, item_guest, key_of, valid, Valid}
use Rattle.build_memory.specs.Find.{find_key}
use Rattle.build_memory.proofs.MemoryLaws.{valid_facts}
use Rattle.build_rules.specs.Valid.{table_known, key_within, key_short, ranges_valid, key_utf8, hash_valid, key_found, key_valid, begun_by, parent_valid, height_limit, guest_placed, guest_valid, held_once, item_valid, link_empty, fully_valid}
use Rattle.build_rules.proofs.ValidLaws.{ranges_table, item_guest_lem}

-- the parent of item i was made before it, is of its table, and the key of i starts with its key
pub record ParentFacts (ws ar : List ℕ) (i : ℕ) : Type 0 where
  pub earlier : item_parent ws i ≤ i
  pub same : item_table ws (item_parent ws i - 1) ≡ item_table ws i
  pub begins : take (length (key_of ws ar (item_parent ws i - 1))) (key_of ws ar i) ≡ key_of ws ar (item_parent ws i - 1)

-- a table that is held in table t is known and placed, and lower than t may hold
pub record GuestFacts (ws : List ℕ) (t guest : ℕ) : Type 0 where
  pub known : guest < table_total ws
  pub placed : table_placed ws guest ≡ 0 → ⊥
  pub some : 1 ≤ table_height ws guest
  pub lower : table_height ws guest < height_limit ws t

pub record WholeFacts (ws ar : List ℕ) : Type 0 where
  pub facts : Valid ws (length ar)
  pub valid : (i : ℕ) → i < item_total ws → item_valid ws ar i ≡ true
  pub once : (i : ℕ) → i < item_total ws → held_once ws i ≡ true
  pub table : (i : ℕ) → i < item_total ws → item_table ws i < table_total ws
  pub key : (i : ℕ) → i < item_total ws → key_start ws i + key_size ws i ≤ room_used ws
  pub short : (i : ℕ) → i < item_total ws → key_size ws i ≤ longest_key
  pub utf8 : (i : ℕ) → i < item_total ws → is_utf8 (key_of ws ar i) ≡ true
  pub hash : (i : ℕ) → i < item_total ws → item_hash ws i ≡ hash_of (key_of ws ar i)
  pub found : (i : ℕ) → i < item_total ws → find_key ws ar (item_table ws i) (key_of ws ar i) ≡ i
  pub parent : (i : ℕ) → i < item_total ws → (item_parent ws i ≡ 0 → ⊥) → ParentFacts ws ar i
  pub guest : (i : ℕ) → i < item_total ws → item_kind ws i ≡ table_kind → GuestFacts ws (item_table ws i) (item_guest ws i)
  pub link : (j : ℕ) → j < links → word ws (link_at j) ≡ no_item

module _ (ws ar : List ℕ) (i : ℕ) (e : item_valid ws ar i ≡ true) where
  ranges_of : ranges_valid ws i ≡ true
  unfolding item_valid
  ranges_of = (both (ranges_valid ws i) _ e).0

  valid_key : key_valid ws ar i ≡ true
  unfolding item_valid
  valid_key = (both (key_valid ws ar i) _ (both (ranges_valid ws i) _ e).1).0

  ranges_key : key_start ws i + key_size ws i ≤ room_used ws
  unfolding ranges_valid key_within
  ranges_key = leb-true _ _ (both (key_within ws i) _ (both (table_known ws i) _ ranges_of).1).0

  ranges_short : key_size ws i ≤ longest_key
  unfolding ranges_valid key_short
  ranges_short = leb-true _ _ (both (key_short ws i) _ (both (key_within ws i) _ (both (table_known ws i) _ ranges_of).1).1).0

  key_utf8_lem : is_utf8 (key_of ws ar i) ≡ true
  unfolding key_valid key_utf8
  key_utf8_lem = (both (key_utf8 ws ar i) _ valid_key).0

  key_hash : item_hash ws i ≡ hash_of (key_of ws ar i)
  unfolding key_valid hash_valid
  key_hash = eqb-true _ _ (both (hash_valid ws ar i) _ (both (key_utf8 ws ar i) _ valid_key).1).0

  key_found_lem : find_key ws ar (item_table ws i) (key_of ws ar i) ≡ i
  unfolding key_valid key_found
  key_found_lem = eqb-true _ _ (both (hash_valid ws ar i) _ (both (key_utf8 ws ar i) _ valid_key).1).1

  valid_parent : parent_valid ws ar i ≡ true
  unfolding item_valid
  valid_parent = (both (parent_valid ws ar i) _ (both (key_valid ws ar i) _ (both (ranges_valid ws i) _ e).1).1).0

  parent_facts : (item_parent ws i ≡ 0 → ⊥) → ParentFacts ws ar i
  unfolding parent_valid begun_by
  parent_facts some =
      let p = item_parent ws i - 1 in
      let more = both (leb (item_parent ws i) i) _ (simp (ne_eqb _ _ some) at valid_parent) in
      let last = both (eqb (item_table ws p) (item_table ws i)) _ more.1 in record {
        earlier = leb-true _ _ more.0;
        same = eqb-true _ _ last.0;
        begins = sym (same_equal _ _ (both (ltb (length (key_of ws ar p)) (length (key_of ws ar i))) _ last.1).1);
      }

  guest_facts : item_kind ws i ≡ table_kind → GuestFacts ws (item_table ws i) (item_guest ws i)
  unfolding guest_valid guest_placed
  guest_facts own =
      let valid : guest_placed ws (item_table ws i) (item_guest ws i) ≡ true = simp (eq-eqb _ _ own) at (item_guest_lem ws ar i e) in
      let more = both (ltb (item_guest ws i) (table_total ws)) _ valid in
      let rest = both (not (eqb (table_placed ws (item_guest ws i)) 0)) _ more.1 in
      let last = both (leb 1 (table_height ws (item_guest ws i))) _ rest.1 in record {
        known = ltb-true _ _ more.0;
        placed = λ loose. let z : ◌≡◌ {A = ℕ} 0 1 = cc (eq-eqb _ _ loose, rest.0) in omega arith;
        some = leb-true _ _ last.0;
        lower = ltb-true _ _ last.1;
      }

link_is : (ws : List ℕ) (j : ℕ) → link_empty ws j ≡ true → word ws (link_at j) ≡ no_item
unfolding link_empty
link_is ws j e = eqb-true _ _ e

pub whole_facts : (ws ar : List ℕ) → fully_valid ws ar ≡ true → WholeFacts ws ar
unfolding fully_valid
whole_facts ws ar e =
    let rest = both (valid ws (length ar)) _ e in
    let more = both (all_below (item_valid ws ar) (item_total ws)) _ rest.1 in
    let last = both (all_below (held_once ws) (item_total ws)) _ more.1 in
    let valid = all_below_lem (item_valid ws ar) (item_total ws) more.0 in record {
      facts = valid_facts ws (length ar) rest.0;
      valid = valid;
      once = all_below_lem (held_once ws) (item_total ws) last.0;
      table = λ i l. ranges_table ws i (ranges_of ws ar i (valid i l));
      key = λ i l. ranges_key ws ar i (valid i l);
      short = λ i l. ranges_short ws ar i (valid i l);
      utf8 = λ i l. key_utf8_lem ws ar i (valid i l);
      hash = λ i l. key_hash ws ar i (valid i l);
      found = λ i l. key_found_lem ws ar i (valid i l);
      parent = λ i l. parent_facts ws ar i (valid i l);
      guest = λ i l. guest_facts ws ar i (valid i l);
      link = λ j l. link_is ws j (all_below_lem (link_empty ws) links last.1 j l);
    }
