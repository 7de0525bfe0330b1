-- The search for the first item that breaks a rule: it finds nothing just where none does, and what it finds is the first.
use Prim.Native.Nat.{ℕ, zero, suc, ◌+◌, ◌≤◌, ◌<◌}
use mathlib.Core.Path.{◌≡◌, refl, sym, ap, ◌∙◌, subst}
use mathlib.Core.Bool.{Bool, true, false}
use native.Mathlib.Omega.{arith}
use lib.Dec.{eqb}
use borrow.Author.Tests.{eqb-true, eqb-false, eq-eqb, ne_eqb}
use Rattle.words.specs.Choice.{pick}
use Rattle.check_rules.specs.declared.checked.Checked.{Checked}
use Rattle.check_rules.specs.Rules.{first_broken}

-- what holds at a position and at all behind it
from_here : (P : ℕ → Type 0) (at k : ℕ) → at ≤ k → P at → (at + 1 ≤ k → P k) → P k
from_here P at k low here later = by_case (eqb k at) refl
  where
    by_case : (b : Bool) → eqb k at ≡ b → P k
    by_case true same = subst P (sym (eqb-true k at same)) here
    by_case false other = let ne : k ≡ at → ⊥ = eqb-false k at other in later (omega arith)

module _ (broken : ℕ → ℕ) where
  broken_sound : (b : Bool) (rest : Checked) (n at : ℕ) → pick b rest (Checked.Broken n at) ≡ Checked.Sound → (b ≡ true) × (rest ≡ Checked.Sound)
  unfolding pick
  broken_sound true rest n at e = (refl, e)
  broken_sound false rest n at e = let z : ◌≡◌ {A = ℕ} 0 1 = cc in absurd (omega arith)

  pub sound_none : (more at : ℕ) → first_broken broken more at ≡ Checked.Sound → (k : ℕ) → at ≤ k → k < at + more → broken k ≡ 0
  unfolding first_broken
  sound_none zero at e k low high = absurd (omega arith)
  sound_none (suc more) at e k low high =
      let parts = broken_sound (eqb (broken at) 0) (first_broken broken more (at + 1)) (broken at) at e in
      from_here (λ i. broken i ≡ 0) at k low (eqb-true _ _ parts.0) (λ l. sound_none more (at + 1) parts.1 k l (omega arith))

  pub none_sound : (more at : ℕ) → ((k : ℕ) → at ≤ k → k < at + more → broken k ≡ 0) → first_broken broken more at ≡ Checked.Sound
  unfolding first_broken pick
  none_sound zero at all = refl
  none_sound (suc more) at all =
      rw (eq-eqb (broken at) 0 (all at (omega arith) (omega arith))) (none_sound more (at + 1) (λ k low high. all k (omega arith) (omega arith)))

  -- an item that breaks a rule, and none before it does
  pub record First (more at rule item : ℕ) : Type 0 where
    pub low : at ≤ item
    pub high : item < at + more
    pub is : broken item ≡ rule
    pub some : rule ≡ 0 → ⊥
    pub before : (k : ℕ) → at ≤ k → k < item → broken k ≡ 0

  first_more : (more at : ℕ) {rule item : ℕ} → broken at ≡ 0 → First more (at + 1) rule item → First (suc more) at rule item
  first_more more at here f = record {
    low = omega (arith, f.low);
    high = omega (arith, f.high);
    is = f.is;
    some = f.some;
    before = λ k low high. from_here (λ i. broken i ≡ 0) at k low here (λ l. f.before k l high);
  }

  first_here : (more at : ℕ) {rule item : ℕ} → Checked.Broken (broken at) at ≡ Checked.Broken rule item → (broken at ≡ 0 → ⊥) → First (suc more) at rule item
  first_here more at {rule} {item} e some =
      let same : at ≡ item = cc in
      let number : broken at ≡ rule = cc in
      record {
        low = omega arith;
        high = omega arith;
        is = ap broken (sym same) ∙ number;
        some = λ z. some (number ∙ z);
        before = λ k low high. absurd (omega arith);
      }

  first_by : (b : Bool) (rest : Checked) (more at : ℕ) {rule item : ℕ} → eqb (broken at) 0 ≡ b → pick b rest (Checked.Broken (broken at) at) ≡ Checked.Broken rule item
      → (rest ≡ Checked.Broken rule item → First more (at + 1) rule item) → First (suc more) at rule item
  unfolding pick
  first_by true rest more at t e later = first_more more at (eqb-true _ _ t) (later e)
  first_by false rest more at t e later = first_here more at e (eqb-false _ _ t)

  pub broken_first : (more at : ℕ) {rule item : ℕ} → first_broken broken more at ≡ Checked.Broken rule item → First more at rule item
  unfolding first_broken
  broken_first zero at e = let z : ◌≡◌ {A = ℕ} 0 1 = cc in absurd (omega arith)
  broken_first (suc more) at e = first_by (eqb (broken at) 0) (first_broken broken more (at + 1)) more at refl e (λ f. broken_first more (at + 1) f)

  pub first_broken_lem : (more at : ℕ) {rule item : ℕ} → First more at rule item → first_broken broken more at ≡ Checked.Broken rule item
  unfolding first_broken pick
  first_broken_lem zero at f = absurd (omega (arith, f.low, f.high))
  first_broken_lem (suc more) at {rule} {item} f =
      by_case (eqb item at) refl (λ behind. first_broken_lem more (at + 1) (record { low = behind; high = omega (arith, f.high); is = f.is; some = f.some; before = λ k low high. f.before k (omega arith) high }))
    where
      by_case : (b : Bool) → eqb item at ≡ b → (at + 1 ≤ item → first_broken broken more (at + 1) ≡ Checked.Broken rule item)
          → pick (eqb (broken at) 0) (first_broken broken more (at + 1)) (Checked.Broken (broken at) at) ≡ Checked.Broken rule item
      by_case true same later =
          let here : item ≡ at = eqb-true _ _ same in
          let number : broken at ≡ rule = ap broken (sym here) ∙ f.is in
          rw (ne_eqb (broken at) 0 (λ z. f.some (sym number ∙ z))) (cc)
      by_case false other later =
          let ne : item ≡ at → ⊥ = eqb-false _ _ other in
          let behind : at + 1 ≤ item = omega (arith, f.low) in
          rw (eq-eqb (broken at) 0 (f.before at (omega arith) (omega arith))) (later behind)
