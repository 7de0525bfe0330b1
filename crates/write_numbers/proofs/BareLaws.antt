-- Laws of a table that has no item: a table past the last is one, and nothing is put for it.
use Prim.Native.Nat.{ℕ, zero, suc, ◌+◌, ◌≤◌, ◌<◌}
use native.Mathlib.Numerals.{add-one}
use native.Mathlib.Omega.{arith}
use mathlib.Core.Path.{◌≡◌, refl, sym, ap, ◌∙◌}
use mathlib.Core.Bool.{Bool, true, false, ◌||◌}
use mathlib.Core.List.{List, []}
use borrow.Author.Tests.{eqb-true, eq-eqb}
use lib.ListN.{length}
use Rattle.std.specs.List.{list_any, range_with_len}
use Rattle.std.proofs.lemmas.List.{nil_from_length}
use Rattle.std.proofs.Math.Bool.{or-false, or_assoc}
use Rattle.words.specs.Below.{some_below}
use Rattle.words.specs.Store.{put_at}
use Rattle.words.proofs.BelowLaws.{some_below_lem, below_some}
use Rattle.words.proofs.StoreLaws.{put-none}
use Rattle.build_memory.specs.Memory.{table_total, item_total, item_table}
use Rattle.image.specs.Index.{hashes_of, by_index}
use Rattle.image.proofs.IndexLaws.{length_hashes, length-by_index}
use Rattle.write_order.specs.Chain.{starts}
use Rattle.write_order.specs.Items.{indices_put}
use Rattle.write_order.proofs.ChainLaws.{length-starts}
use Rattle.write_order.proofs.ItemLaws.{indices_start}
use Rattle.write_numbers.specs.Roster.{state_of}
use Rattle.write_numbers.specs.Fill.{of_table, all_of_table, in_table, has_items, Fit, Put}
use Rattle.write_numbers.proofs.OfTableLaws.{of_table_pass}
use Rattle.write_numbers.proofs.StateLaws.{state_members}

-- ---- the search for an item

-- a test of some number from a on, and of those below a, is one of those below the end
any_on : (test : ℕ → Bool) (a n : ℕ) → (some_below test a || list_any test (range_with_len a n)) ≡ some_below test (a + n)
unfolding some_below
any_on test a zero = or-false (some_below test a) ∙ ap (some_below test) (plus_zero a)
  where
    plus_zero : (a : ℕ) → a ≡ a + 0
    plus_zero a = omega arith
any_on test a (suc n) =
    let rest = list_any test (range_with_len (a + 1) n) in
    let next : some_below test (a + 1) ≡ (some_below test a || test a) = ap (some_below test) (add-one a) in
    let at : a + suc n ≡ a + 1 + n = omega arith in
    rw at (sym (or_assoc (some_below test a) (test a) rest) ∙ ap (λ (b : Bool). b || rest) (sym next) ∙ any_on test (a + 1) n)

module _ (ws : List ℕ) (t : ℕ) where
  pub any_item : {r : Bool} → r ≡ list_any (in_table ws t) (range_with_len 0 (item_total ws)) → r ≡ has_items ws t
  unfolding has_items some_below
  any_item e = let all : 0 + item_total ws ≡ item_total ws = omega arith in e ∙ any_on (in_table ws t) 0 (item_total ws) ∙ ap (some_below (in_table ws t)) all

  search_hit : (i : ℕ) → i < item_total ws → item_table ws i ≡ t → true ≡ has_items ws t
  unfolding has_items
  search_hit i l e = sym (below_some (in_table ws t) (item_total ws) i l (eq-eqb _ _ e))

  pub past_none : Fit ws → table_total ws ≤ t → false ≡ has_items ws t
  unfolding has_items
  past_none fit past = by_case (some_below (in_table ws t) (item_total ws)) refl
    where
      by_case : (b : Bool) → some_below (in_table ws t) (item_total ws) ≡ b → false ≡ some_below (in_table ws t) (item_total ws)
      by_case true e = let (k, l, q) = some_below_lem (in_table ws t) (item_total ws) e in let of_table : item_table ws k ≡ t = eqb-true _ _ q in absurd (omega (arith, fit.known k l))
      by_case false e = sym e

-- ---- a table with none

bare_of_table : (ws : List ℕ) (t n : ℕ) → ((i : ℕ) → i < n → item_table ws i ≡ t → ⊥) → of_table ws t n ≡ []
unfolding of_table
bare_of_table ws t zero none = refl
bare_of_table ws t (suc n) none = of_table_pass ws t n (none n (omega arith)) ∙ bare_of_table ws t n (λ i h. none i (omega arith))

bare_all_of_table : (ws : List ℕ) (t : ℕ) → has_items ws t ≡ false → all_of_table ws t ≡ []
unfolding all_of_table
bare_all_of_table ws t none = bare_of_table ws t (item_total ws) (λ i l e. let some : true ≡ has_items ws t = search_hit ws t i l e in let z : ◌≡◌ {A = ℕ} 0 1 = cc in omega arith)

module _ (ws ar : List ℕ) (t : ℕ) (none : has_items ws t ≡ false) where
  no_members : length (state_of ws ar t).members ≡ 0
  no_members = ap length (state_members ws ar t ∙ bare_all_of_table ws t none)

  no_indices : (rule : ℕ → ℕ) → by_index rule (state_of ws ar t) ≡ []
  no_indices rule = nil_from_length _ (length-by_index rule (state_of ws ar t) ∙ no_members)

  no_starts : (rule : ℕ → ℕ) → starts (hashes_of rule (state_of ws ar t)) ≡ []
  no_starts rule = nil_from_length _ (length-starts (hashes_of rule (state_of ws ar t)) ∙ length_hashes rule (state_of ws ar t) ∙ no_members)

  pub put_bare : {rule : ℕ → ℕ} (first : ℕ) (slots indices buckets : List ℕ) → Put rule ws ar t first 0 slots slots indices indices buckets buckets
  put_bare {rule} first slots indices buckets = record {
    count = sym no_members;
    slots_are = sym (ap (put_at slots first) (no_indices rule) ∙ put-none slots first);
    buckets_are = sym (ap (put_at buckets first) (no_starts rule) ∙ put-none buckets first);
    indices_are = indices_start indices [] ∙ sym (ap (λ (m : List ℕ). indices_put indices m (length m)) (no_indices rule));
  }
