-- A text is bad somewhere just where it is not UTF-8.
use Prim.Native.Nat.{ℕ, ◌≤◌}
use mathlib.Core.Path.{◌≡◌, refl, sym, ◌∙◌}
use mathlib.Core.List.{List}
use mathlib.Core.Bool.{false}
use native.Mathlib.Omega.{arith}
use lib.ListN.{length}
use lib.Seq.{length-take-le}
use borrow.Author.Tests.{eqb-false, ne_eqb}
use Rattle.text.specs.Utf8.{first_bad, is_utf8}
use Rattle.text.specs.Bad.{BadText}
use Rattle.text.proofs.Utf8Laws.{first_bad_within, front_valid, bad_stops}
use Rattle.text.proofs.Utf8Parts.{whole_utf8}

pub bad_text : (s : List ℕ) → is_utf8 s ≡ false → BadText s (first_bad s)
unfolding is_utf8
bad_text s e =
    let within : first_bad s ≤ length s = first_bad_within s in
    let part : first_bad s ≡ length s → ⊥ = eqb-false _ _ e in
    record {
      is = refl;
      below = omega arith;
      front = whole_utf8 _ (front_valid s ∙ sym (length-take-le (first_bad s) s within));
      stops = bad_stops s;
    }

pub bad_no_utf8 : (s : List ℕ) {at : ℕ} → BadText s at → is_utf8 s ≡ false
unfolding is_utf8
bad_no_utf8 s b = ne_eqb (first_bad s) (length s) (λ e. omega (arith, b.is, b.below))
