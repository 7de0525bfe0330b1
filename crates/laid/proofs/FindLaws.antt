-- In an image that holds a plan, a key is found at its index, and a key that no item has is not found.
use Rattle.std.specs.Prelude.{Option, Some, None}
use mathlib.Core.Path.{◌≡◌, refl, sym, ap, ◌∙◌}
use mathlib.Core.Logic.{◌⊎◌, ⊎_elim}
use mathlib.Core.Bool.{Bool, true, false, ◌&&◌}
use mathlib.Core.List.{List}
use Prim.Native.Nat.{ℕ, ◌+◌, ◌*◌, ◌/◌, ◌%◌, ◌^◌, ◌≤◌, ◌<◌}
use native.Mathlib.Nat.{mod-lt}
use native.Mathlib.Omega.{arith}
use lib.Dec.{ltb, eqb}
use lib.ListN.{length}
use borrow.Author.Tests.{ltb-true, eqb-false}
use Rattle.words.specs.Choice.{pick}
use Rattle.words.specs.Field.{word_at}
use Rattle.key_hash.specs.Hash.{hash_by}
use Rattle.words.specs.Bits.{bit_set}
use Rattle.layout.specs.declared.table.Table.{Table}
use Rattle.layout.specs.Limits.{longest_file}
use Rattle.layout.specs.Item.{item_at}
use Rattle.read_chain.specs.Chain.{Joined, key_of}
use Rattle.read_find.specs.Find.{Manner, bloom_passes, bucket_word, run_of, find_item}
use Rattle.read_listing.proofs.Plain.{run_for, found_names, not_found}
use Rattle.image.specs.Plan.{Plan, first_word, filter_word, plan_bytes}
use Rattle.image.specs.Laid.{Holds}
use Rattle.image.specs.Fits.{PlanFits, opened_as, laid_item}
use Rattle.image.proofs.PlanLaws.{read_mark, read_filter, read_bucket}
use Rattle.image.proofs.FilterLaws.{filter_small, filter_first, filter_second}
use Rattle.image.proofs.OpenLaws.{laid_item_lem}
use Rattle.laid.specs.Keys.{PlanKeys, PlanRuns, last_of}
use Rattle.laid.proofs.KeyLaws.{key_whole}

div_one : (h : ℕ) → h / 2 ^ 0 ≡ h
div_one h = omega arith

same_key : {j : Joined} {a b : List ℕ} → j ≡ Joined.joined a → j ≡ Joined.joined b → a ≡ b
same_key e f = cc

module _ (manner : Manner) (img : List ℕ) (p : Plan) (at : ℕ) (held : Holds img at (plan_bytes p at)) (short : length img ≤ longest_file) (fits : PlanFits p)
    (key : ℕ → List ℕ) (rank : ℕ → ℕ) (keys : PlanKeys p key rank) where
  abbrev table : Table
  table = opened_as at p.filter p.count

  bucket_reads : (b : ℕ) → b < p.count → bucket_word img table b ≡ p.first b
  unfolding bucket_word opened_as
  bucket_reads b l = read_bucket img p at held b l (fits.first32 b l)

  last_reads : (b : ℕ) → pick (ltb (b + 1) p.count) (bucket_word img table (b + 1)) p.count ≡ last_of p b
  unfolding last_of pick
  last_reads b = by (ltb (b + 1) p.count) refl
    where
      by : (t : Bool) → ltb (b + 1) p.count ≡ t → pick t (bucket_word img table (b + 1)) p.count ≡ pick t (p.first (b + 1)) p.count
      by true e = bucket_reads (b + 1) (ltb-true (b + 1) p.count e)
      by false e = refl

  key_found_lem : (i : ℕ) → i < p.count → key_of img table table.count i ≡ Joined.joined (key i)
  unfolding opened_as
  key_found_lem i l = key_whole img p at held short fits key rank keys i l

  -- what is found is an item with the key
  pub found_index : (x : List ℕ) (i : ℕ) → find_item manner img table x ≡ Some i → (i < p.count) × (key i ≡ x)
  unfolding opened_as
  found_index x i e =
      let n = found_names manner img table x i e in
      (n.0, same_key (key_found_lem i n.0) n.2)

  -- a key that no item has is not found
  pub find_nothing : (x : List ℕ) → ((k : ℕ) → k < p.count → key k ≡ x → ⊥) → find_item manner img table x ≡ None
  find_nothing x none = by (find_item manner img table x) refl
    where
      by : (f : Option ℕ) → find_item manner img table x ≡ f → find_item manner img table x ≡ None
      by (Some i) e = let n = found_index x i e in absurd (none i n.0 n.1)
      by None e = e

  module _ (runs : PlanRuns manner.byte p key) (shifts : (manner.shift (first_word p.filter) ≡ 0) ⊎ (manner.shift (first_word p.filter) ≡ 5)) where
    -- the second bit is the first, or the one that was laid for it
    second_bit_lem : (w h : ℕ) → bit_set w (h % 32) ≡ true → bit_set w (h / 32 % 32) ≡ true → bit_set w (h / 2 ^ manner.shift (word_at img at) % 32) ≡ true
    second_bit_lem w h one two =
        let first : word_at img at ≡ first_word p.filter = read_mark img p at held fits.filter27 in
        ⊎_elim
        (λ e. ap (λ (n : ℕ). bit_set w (h / 2 ^ n % 32)) (ap manner.shift first ∙ e) ∙ ap (λ (n : ℕ). bit_set w (n % 32)) (div_one h) ∙ one)
        (λ e. ap (λ (n : ℕ). bit_set w (h / 2 ^ n % 32)) (ap manner.shift first ∙ e) ∙ two)
        shifts

    -- the hash of an item passes the filter
    laid_passes : (k : ℕ) → k < p.count → bloom_passes manner.shift img table (p.hash k) ≡ true
    unfolding bloom_passes opened_as pick
    laid_passes k l = by (eqb p.filter 0) refl
      where
        by : (t : Bool) → eqb p.filter 0 ≡ t
            → pick t true (bit_set (word_at img (at + 8 + 4 * (p.hash k / 32 % p.filter))) (p.hash k % 32)
            && bit_set (word_at img (at + 8 + 4 * (p.hash k / 32 % p.filter))) (p.hash k / 2 ^ manner.shift (word_at img at) % 32)) ≡ true
        by true e = refl
        by false e =
            let h = p.hash k in
            let place = h / 32 % p.filter in
            let ne = eqb-false p.filter 0 e in
            let some : place < p.filter = mod-lt (h / 32) (omega arith) in
            let w = filter_word p.hash p.filter place p.count in
            let read : word_at img (at + 8 + 4 * place) ≡ w = read_filter img p at held place some (filter_small p.hash p.filter place p.count) in
            let one : bit_set w (h % 32) ≡ true = filter_first p.hash p.filter place k p.count l refl in
            let two : bit_set w (h / 32 % 32) ≡ true = filter_second p.hash p.filter place k p.count l refl in
            rw (read, one) (second_bit_lem w h one two)

    laid_hash : (k : ℕ) → k < p.count → (item_at img table k).hash ≡ hash_by manner.byte (key k)
    unfolding laid_item
    laid_hash k l = rw (laid_item_lem img p at held short fits k l) (runs.hashed k l)

    -- item k lies in the run of its key's bucket
    in_run : (k : ℕ) → k < p.count → ((run_for manner img table (key k)).first ≤ k) × (k < (run_for manner img table (key k)).last)
    unfolding run_of opened_as
    in_run k l =
        let b : ℕ = hash_by manner.byte (key k) % p.count in
        let some : 0 < p.count = omega arith in
        let same : p.hash k % p.count ≡ b = ap (λ (h : ℕ). h % p.count) (runs.hashed k l) in
        let low : p.first b ≤ k = rw same at (runs.from k l) in
        let high : k < last_of p b = rw same at (runs.to k l) in
        (rw (bucket_reads b (mod-lt (hash_by manner.byte (key k)) some)) low, rw (last_reads b) high)

    -- a key is found at its index
    pub find_there : (k : ℕ) → k < p.count → find_item manner img table (key k) ≡ Some k
    unfolding opened_as
    find_there k l = by (find_item manner img table (key k)) refl
      where
        by : (f : Option ℕ) → find_item manner img table (key k) ≡ f → find_item manner img table (key k) ≡ Some k
        by (Some i) e = let n = found_index (key k) i e in e ∙ ap Some (runs.distinct i k n.0 l n.1)
        by None e =
            let r = in_run k l in
            let passes = ap (λ (h : ℕ). bloom_passes manner.shift img table h) (sym (runs.hashed k l)) ∙ laid_passes k l in
            absurd (not_found manner img table (key k) e (λ z. omega arith) passes k r.0 r.1 l (laid_hash k l) (key_found_lem k l))
