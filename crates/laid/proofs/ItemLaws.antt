-- Each item of a table that an image holds reads back: its index, its key, its record, and what it holds.
use Rattle.std.specs.Prelude.{Ok, Some, None}
use mathlib.Core.Path.{◌≡◌, refl, sym, ap, ◌∙◌}
use mathlib.Core.List.{List}
use Prim.Native.Nat.{ℕ, zero, suc, ◌+◌, ◌%◌, ◌^◌, ◌≤◌, ◌<◌}
use native.Mathlib.Omega.{arith}
use lib.ListN.{length}
use Rattle.words.specs.Align.{aligned}
use Rattle.key_hash.specs.Hash.{hash_by}
use Rattle.layout.specs.Limits.{longest_file}
use Rattle.layout.specs.Table.{open_table}
use Rattle.layout.specs.Item.{item_at}
use Rattle.layout.specs.Kind.{kind_byte}
use Rattle.read_chain.specs.Chain.{Joined, key_of}
use Rattle.read_find.specs.Find.{find_item}
use Rattle.model.specs.Table.{Content, State, Has, kind_of}
use Rattle.image.specs.Index.{index_in, laid_index, item_of}
use Rattle.layout.specs.Sizes.{chunk_size}
use Rattle.image.specs.Plan.{Plan, place, value_start, plan_bytes}
use Rattle.image.specs.Image.{align_of, children_of, child_words, parent_index, value_of, plan_of, table_bytes}
use Rattle.image.specs.WellFormed.{WellFormed, Writable}
use Rattle.image.specs.Laid.{Holds}
use Rattle.image.specs.Fits.{PlanFits, laid_item}
use Rattle.image.proofs.IndexLaws.{item_within, index_within, item_index_lem}
use Rattle.image.proofs.PlanLaws.{length_plan, read_value, value_ends}
use Rattle.image.proofs.OpenLaws.{laid_opens, laid_item_lem}
use Rattle.laid.specs.Keys.{PlanKeys, PlanRuns}
use Rattle.laid.specs.Back.{Lay, end_of, table_opened, plan_at, value_offset, covers_at, ItemBack, NestedBack}
use Rattle.laid.proofs.KeyLaws.{key_whole}
use Rattle.laid.proofs.FindLaws.{found_index, find_there, find_nothing}
use Rattle.laid.proofs.TableLaws.{plan_fits, plan_keys, plan_runs}

-- ---- a table that may be written

-- fills its table chunk
chunk_room : (rule : ℕ → ℕ) (filter : ℕ) (state : State) (d u at : ℕ) → Writable state d u → chunk_size filter (length (state u).members) ≤ length (table_bytes rule filter state d u at)
unfolding Writable table_bytes plan_of
chunk_room rule filter state zero u at good = absurd good
chunk_room rule filter state (suc d) u at good = omega (arith, length_plan (plan_at rule filter state d u) at)

module _ (state : State) (d t : ℕ) (good : Writable state (suc d) t) where
  pub well_formed_lem : WellFormed (state t)
  unfolding Writable
  well_formed_lem = good.0

  pub nested_writable : (i u : ℕ) → Has (state t).members i → (state t).content i ≡ Content.nested u → Writable state d u
  unfolding Writable
  nested_writable = good.1

  module _ (rule : ℕ → ℕ) where
    module _ (filter : ℕ) where
      pub fits_plan : filter < 2 ^ 27 → PlanFits (plan_at rule filter state d t)
      fits_plan few =
          plan_fits rule filter (λ u start. table_bytes rule filter state d u start) state (state t) well_formed_lem few (λ i u l e at. chunk_room rule filter state d u at (nested_writable i u l e))

      pub keys_plan : PlanKeys (plan_at rule filter state d t) (λ k. (state t).key (item_of rule (state t) k)) (λ k. index_in (state t).members (item_of rule (state t) k))
      keys_plan = plan_keys rule filter (λ u start. table_bytes rule filter state d u start) state (state t) well_formed_lem

      pub runs_plan : PlanRuns rule (plan_at rule filter state d t) (λ k. (state t).key (item_of rule (state t) k))
      runs_plan = plan_runs rule filter (λ u start. table_bytes rule filter state d u start) state (state t) well_formed_lem

    -- an item's index, and the item at that index
    pub index_small : (i : ℕ) → Has (state t).members i → laid_index rule (state t) i < length (state t).members
    index_small i l = index_within rule (state t) well_formed_lem.once i l

    pub indexed_item : (i : ℕ) → Has (state t).members i → item_of rule (state t) (laid_index rule (state t) i) ≡ i
    indexed_item i l = item_index_lem rule (state t) well_formed_lem.once i l

start_eight : (p : Plan) (k s : ℕ) → p.align k ≡ 8 → value_start p k s % 8 ≡ 0
unfolding value_start aligned
start_eight p k s e = rw e (omega arith)

start_four : (p : Plan) (k s : ℕ) → p.align k ≡ 4 → value_start p k s % 4 ≡ 0
unfolding value_start aligned
start_four p k s e = rw e (omega arith)

-- ---- in an image that holds it

module _ (lay : Lay) (img : List ℕ) (state : State) (d t at : ℕ) (held : Holds img at (table_bytes lay.manner.byte lay.filter state (suc d) t at)) (short : length img ≤ longest_file)
    (even : at % 4 ≡ 0) (good : Writable state (suc d) t) where
  plan_held : Holds img at (plan_bytes (plan_at lay.manner.byte lay.filter state d t) at)
  unfolding table_bytes
  plan_held = held

  fits : PlanFits (plan_at lay.manner.byte lay.filter state d t)
  fits = fits_plan state d t good lay.manner.byte lay.filter lay.few

  -- the table opens with all its items
  pub opens : open_table img at (end_of lay.filter state t at) ≡ Ok (table_opened lay.filter state t at)
  unfolding plan_of
  opens = laid_opens img (plan_at lay.manner.byte lay.filter state d t) at plan_held short lay.few even

  -- the key at an index is the whole key of the item there
  pub key_of_index : (k : ℕ) → k < length (state t).members
      → key_of img (table_opened lay.filter state t at) (length (state t).members) k ≡ Joined.joined ((state t).key (item_of lay.manner.byte (state t) k))
  unfolding plan_of
  key_of_index k l = key_whole img (plan_at lay.manner.byte lay.filter state d t) at plan_held short fits _ _ (keys_plan state d t good lay.manner.byte lay.filter) k l

  pub key_back : (i : ℕ) → Has (state t).members i
      → key_of img (table_opened lay.filter state t at) (length (state t).members) (laid_index lay.manner.byte (state t) i) ≡ Joined.joined ((state t).key i)
  key_back i l =
      key_of_index (laid_index lay.manner.byte (state t) i) (index_small state d t good lay.manner.byte i l)
      ∙ ap (λ (j : ℕ). Joined.joined ((state t).key j)) (indexed_item state d t good lay.manner.byte i l)

  -- the key of an item is found at its index, and a key that no item has is not found
  pub found_back : (i : ℕ) → Has (state t).members i → find_item lay.manner img (table_opened lay.filter state t at) ((state t).key i) ≡ Some (laid_index lay.manner.byte (state t) i)
  unfolding plan_of
  found_back i l =
      ap (λ (j : ℕ). find_item lay.manner img (table_opened lay.filter state t at) ((state t).key j)) (sym (indexed_item state d t good lay.manner.byte i l))
      ∙ find_there lay.manner img (plan_at lay.manner.byte lay.filter state d t) at plan_held short fits _ _ (keys_plan state d t good lay.manner.byte lay.filter) (runs_plan state d t good lay.manner.byte lay.filter) lay.shifts
      (laid_index lay.manner.byte (state t) i) (index_small state d t good lay.manner.byte i l)

  pub not_found_back : (x : List ℕ) → ((i : ℕ) → Has (state t).members i → (state t).key i ≡ x → ⊥) → find_item lay.manner img (table_opened lay.filter state t at) x ≡ None
  unfolding plan_of
  not_found_back x none =
      find_nothing lay.manner img (plan_at lay.manner.byte lay.filter state d t) at plan_held short fits _ _ (keys_plan state d t good lay.manner.byte lay.filter) x
      (λ k l e. none (item_of lay.manner.byte (state t) k) (item_within lay.manner.byte (state t) (well_formed_lem state d t good).once k l) e)

  -- what is found is an item's index; and the key at an index is found there
  pub found_is : (x : List ℕ) (k : ℕ) → find_item lay.manner img (table_opened lay.filter state t at) x ≡ Some k
      → (k < length (state t).members) × ((state t).key (item_of lay.manner.byte (state t) k) ≡ x)
  unfolding plan_of
  found_is x k e =
      found_index lay.manner img (plan_at lay.manner.byte lay.filter state d t) at plan_held short fits _ _ (keys_plan state d t good lay.manner.byte lay.filter) x k e

  pub found_again : (k : ℕ) → k < length (state t).members
      → find_item lay.manner img (table_opened lay.filter state t at) ((state t).key (item_of lay.manner.byte (state t) k)) ≡ Some k
  unfolding plan_of
  found_again k l =
      find_there lay.manner img (plan_at lay.manner.byte lay.filter state d t) at plan_held short fits _ _ (keys_plan state d t good lay.manner.byte lay.filter)
      (runs_plan state d t good lay.manner.byte lay.filter) lay.shifts k l

  -- the value as laid, and where it ends
  pub value-held : (i : ℕ) → Has (state t).members i
      → Holds img (value_offset lay.manner.byte lay.filter state d t at i)
      (value_of lay.manner.byte lay.filter (λ u start. table_bytes lay.manner.byte lay.filter state d u start) state (state t) i ((state t).content i) (value_offset lay.manner.byte lay.filter state d t at i))
  unfolding plan_of value_offset
  value-held i l =
      rw (indexed_item state d t good lay.manner.byte i l) at
      (read_value img (plan_at lay.manner.byte lay.filter state d t) at plan_held (laid_index lay.manner.byte (state t) i) (index_small state d t good lay.manner.byte i l))

  pub value_inside : (i : ℕ) → Has (state t).members i → value_offset lay.manner.byte lay.filter state d t at i + covers_at lay.manner.byte lay.filter state d t i ≤ length img
  unfolding plan_of value_offset
  value_inside i l =
      let k = laid_index lay.manner.byte (state t) i in
      let b = index_small state d t good lay.manner.byte i l in
      let p = plan_at lay.manner.byte lay.filter state d t in
      let v = value_start p k (place p (end_of lay.filter state t at) k) in
      let total : v + p.covers k ≤ length img = omega (arith, fits.covered k v b, value_ends img p at plan_held k b) in
      rw (indexed_item state d t good lay.manner.byte i l) at total

  -- the record at an item's index
  pub item_back : (i : ℕ) → Has (state t).members i → ItemBack lay.manner.byte lay.filter img state d t at i (item_at img (table_opened lay.filter state t at) (laid_index lay.manner.byte (state t) i))
  unfolding plan_of laid_item value_offset
  item_back i l =
      let e = indexed_item state d t good lay.manner.byte i l in
      rw (laid_item_lem img (plan_at lay.manner.byte lay.filter state d t) at plan_held short fits (laid_index lay.manner.byte (state t) i) (index_small state d t good lay.manner.byte i l))
      (record {
        hash = ap (λ (j : ℕ). hash_by lay.manner.byte ((state t).key j)) e;
        parent = ap (λ (j : ℕ). parent_index lay.manner.byte (state t) j) e;
        kind = ap (λ (j : ℕ). kind_byte (kind_of ((state t).content j))) e;
        from = refl;
        to = ap (λ (j : ℕ). value_offset lay.manner.byte lay.filter state d t at i + covers_at lay.manner.byte lay.filter state d t j) e;
        fits = value_inside i l;
      })

  -- a value starts at a multiple of 8, a table and a container's children at one of 4
  align_index : (i : ℕ) → Has (state t).members i → (plan_at lay.manner.byte lay.filter state d t).align (laid_index lay.manner.byte (state t) i) ≡ align_of ((state t).content i)
  unfolding plan_of
  align_index i l = ap (λ (j : ℕ). align_of ((state t).content j)) (indexed_item state d t good lay.manner.byte i l)

  pub offset_eight : (i : ℕ) → Has (state t).members i → align_of ((state t).content i) ≡ 8 → value_offset lay.manner.byte lay.filter state d t at i % 8 ≡ 0
  unfolding value_offset
  offset_eight i l e = start_eight (plan_at lay.manner.byte lay.filter state d t) (laid_index lay.manner.byte (state t) i) _ (align_index i l ∙ e)

  pub offset_four : (i : ℕ) → Has (state t).members i → align_of ((state t).content i) ≡ 4 → value_offset lay.manner.byte lay.filter state d t at i % 4 ≡ 0
  unfolding value_offset
  offset_four i l e = start_four (plan_at lay.manner.byte lay.filter state d t) (laid_index lay.manner.byte (state t) i) _ (align_index i l ∙ e)

  -- what stands at the value pointer of an item that holds bytes, a table, or children
  pub bytes-held : (i : ℕ) (value : List ℕ) → Has (state t).members i → (state t).content i ≡ Content.bytes value → Holds img (value_offset lay.manner.byte lay.filter state d t at i) value
  unfolding value_of
  bytes-held i value l is = rw is at (value-held i l)

  pub nested-held : (i u : ℕ) → Has (state t).members i → (state t).content i ≡ Content.nested u → NestedBack lay.manner.byte lay.filter img state d u (value_offset lay.manner.byte lay.filter state d t at i)
  unfolding value_of
  nested-held i u l is = record {
    held = rw is at (value-held i l);
    even = offset_four i l (rw is);
    writable = nested_writable state d t good i u l is;
  }

  pub children_held : (i : ℕ) → Has (state t).members i → (state t).content i ≡ Content.container
      → Holds img (value_offset lay.manner.byte lay.filter state d t at i) (child_words lay.manner.byte (state t) (children_of (state t) i))
  unfolding value_of
  children_held i l is = rw is at (value-held i l)

-- a nested table opens, with all its items
pub nested_opens : (lay : Lay) (img : List ℕ) (state : State) (d u from : ℕ) → length img ≤ longest_file → NestedBack lay.manner.byte lay.filter img state d u from
    → open_table img from (end_of lay.filter state u from) ≡ Ok (table_opened lay.filter state u from)
unfolding Writable
nested_opens lay img state zero u from short n = absurd n.writable
nested_opens lay img state (suc d) u from short n = opens lay img state d u from n.held short n.even n.writable
