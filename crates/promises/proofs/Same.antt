-- Two that meet one contract have the same parts.
use mathlib.Core.Path.{◌≡◌, sym, ap, ◌∙◌}
use mathlib.Core.List.{List}
use Prim.Native.Nat.{ℕ}
use denote.Ref.{Bor}
use Rattle.build_memory.specs.Memory.{Memory, Outcome, outcome}
use Rattle.view_part.specs.Part.{Viewed}
use Rattle.promises.specs.One.{SameSlice}

-- the answer, the words and the arena of a builder's call
pub outcomes : {A : Type 0} {o : Outcome A} {r s : A} {m n : Memory} → outcome r m ≡ o → outcome s n ≡ o → (r ≡ s) × (m.words ≡ n.words) × (m.arena ≡ n.arena)
outcomes {A} p q =
    let e = p ∙ sym q in (ap (λ (o : Outcome A). o.answer) e, ap (λ (o : Outcome A). o.after.words) e, ap (λ (o : Outcome A). o.after.arena) e)

-- of a call that answers nothing
pub memories : {o m n : Memory} → m ≡ o → n ≡ o → (m.words ≡ n.words) × (m.arena ≡ n.arena)
memories p q = let e = p ∙ sym q in (ap (λ (m : Memory). m.words) e, ap (λ (m : Memory). m.arena) e)

-- a slice of a lent file
pub slices : {file r s : Bor (List ℕ)} {at : ℕ} {bytes : List ℕ} → Viewed file r at bytes → Viewed file s at bytes → SameSlice r s
slices p q = (p.block ∙ sym q.block, p.place ∙ sym q.place, p.holds ∙ sym q.holds)
