-- The loop that measures a key: the length of the present item's key and of what was passed is the whole key's length.
use Rattle.std.specs.Prelude.{Result, Ok, Err, Some, None}
use Prim.Native.Nat.{ℕ, ◌+◌, ◌*◌, ◌-◌, ◌≤◌, ◌<◌}
use mathlib.Core.Path.{◌≡◌, refl, sym, ap, ◌∙◌, subst}
use mathlib.Core.List.{List, ◌++◌}
use native.Mathlib.Omega.{arith}
use native.Mathlib.Nat.{add-zero}
use lib.ListN.{length, length-append}
use Rattle.layout.specs.declared.refusal.Refusal.{Refusal}
use Rattle.layout.specs.declared.refusal.Refusal.TheVariants.{ParentsEndless}
use Rattle.layout.specs.declared.table.Table.{Table}
use Rattle.layout.specs.declared.item.Item.{Item}
use Rattle.layout.specs.Item.{item_at}
use Rattle.read_chain.specs.Chain.{Joined, append, join_step, key_of, climb_from, fragment_of}
use Rattle.read_listing.specs.Listing.{measure}
use Rattle.read_chain.proofs.ChainLaws.{StepFits, climb_fits, key_turn, key_over, fragment_size}

-- a key's length, with so many bytes behind it
unfoldable pub measure_from : ℕ → Joined → Result ℕ Refusal
measure_from total (Joined.joined k) = Ok (length k + total)
measure_from total (Joined.broken why) = Err why

measure-from-zero : (j : Joined) → measure_from 0 j ≡ measure j
unfolding measure_from measure
measure-from-zero (Joined.joined k) = ap Ok (add-zero (length k))
measure-from-zero (Joined.broken why) = refl

measure-append : (total : ℕ) (j : Joined) (f : List ℕ) → measure_from total (append j f) ≡ measure_from (total + length f) j
unfolding measure_from append
measure-append total (Joined.joined k) f =
    let e : length (k ++ f) + total ≡ length k + (total + length f) = omega (arith, length-append k f) in
    ap Ok e
measure-append total (Joined.broken why) f = refl

pub record Measuring (file : List ℕ) (t : Table) (index at total left : ℕ) : Type 0 where
  pub below : at < t.count
  pub few : left ≤ t.count
  pub small : total ≤ 65535 * (t.count - left)
  pub same : measure_from total (key_of file t left at) ≡ measure (key_of file t t.count index)

module _ (file : List ℕ) (t : Table) (index : ℕ) where
  pub measure-start : index < t.count → Measuring file t index index 0 t.count
  measure-start h = record { below = h; few = omega arith; small = omega arith; same = measure-from-zero _ }

  module _ {at total left : ℕ} (m : Measuring file t index at total left) where
    pub measure_over : left ≤ 0 → Err ParentsEndless ≡ measure (key_of file t t.count index)
    unfolding measure_from
    measure_over h = sym (ap (measure_from total) (key_over file t left at h)) ∙ m.same

    module _ (h : 0 < left) {item : Item} (is : item ≡ item_at file t at) where
      pub measure-refused : {why : Refusal} → climb_from file t.count item ≡ Err why → Err why ≡ measure (key_of file t t.count index)
      unfolding measure_from join_step
      measure-refused e = sym (ap (measure_from total) (key_turn file t left at item _ h is e)) ∙ m.same

      module _ {size : ℕ} (z : size ≡ item.size) where
        pub measure_root : climb_from file t.count item ≡ Ok None → Ok (total + size) ≡ measure (key_of file t t.count index)
        unfolding measure_from join_step StepFits
        measure_root e =
            let fits : item.key + item.size ≤ length file = subst (StepFits file t.count item) e (climb_fits file t.count item) in
            let sum : total + size ≡ length (fragment_of file item) + total = omega (arith, fragment_size file item fits) in
            ap Ok sum ∙ sym (ap (measure_from total) (key_turn file t left at item _ h is e)) ∙ m.same

        pub measure_up : size < 65536 → {parent : ℕ} → climb_from file t.count item ≡ Ok (Some parent) → Measuring file t index parent (total + size) (left - 1)
        unfolding join_step StepFits
        measure_up short {parent} e =
            let fits : (item.key + item.size ≤ length file) × (parent < t.count) = subst (StepFits file t.count item) e (climb_fits file t.count item) in
            let sum : total + size ≡ total + length (fragment_of file item) = omega (arith, fragment_size file item fits.0) in
            record {
              below = fits.1;
              few = omega (arith, m.few);
              small = omega (arith, m.small, m.few);
              same =
                  ap (λ (n : ℕ). measure_from n (key_of file t (left - 1) parent)) sum
                  ∙ sym (ap (measure_from total) (key_turn file t left at item _ h is e) ∙ measure-append total (key_of file t (left - 1) parent) (fragment_of file item))
                  ∙ m.same;
            }
