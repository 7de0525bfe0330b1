-- The laws of bytes that are laid, which callers cite and not `put_at` itself, and of bytes that are held.
use mathlib.Core.Path.{◌≡◌, refl, sym, ap, ◌∙◌}
use mathlib.Core.List.{List, [], ◌∷◌, ◌++◌}
use Prim.Native.Nat.{ℕ, ◌+◌, ◌≤◌, ◌<◌}
use native.Mathlib.Nat.{add-zero}
use native.Mathlib.Omega.{arith}
use lib.ListN.{length, take, drop, get_or, length-append, length-take, length-drop}
use lib.Seq.{take_at, drop_at, take-add, take-take, drop-drop, get_or-take, get_or-drop}
use Rattle.words.specs.Store.{part, put_at}
use Rattle.words.proofs.StoreLaws.{put-none, put-append, put_comm, part-put}
use Rattle.image.specs.Laid.{Holds, Laid}

-- ---- what is laid

pub laid_none : (img : List ℕ) (at : ℕ) → Laid img img at [] at
laid_none img at = record { end_is = sym (add-zero at); image_is = sym (put-none img at) }

-- two runs of bytes, the second where the first ends, are one
pub laid_join : {a b c : List ℕ} {at mid end : ℕ} {xs ys : List ℕ} → Laid a b at xs mid → Laid b c mid ys end → Laid a c at (xs ++ ys) end
laid_join {a} {b} {c} {at} {mid} {end} {xs} {ys} p q = record {
  end_is = omega (arith, p.end_is, q.end_is, length-append xs ys);
  image_is = q.image_is ∙ rw (p.image_is, p.end_is, put-append);
}

-- the same bytes under another name
pub laid_as : {a b : List ℕ} {at end : ℕ} {xs ys : List ℕ} → xs ≡ ys → Laid a b at xs end → Laid a b at ys end
laid_as e p = rw (← e) p

-- two runs that both grow, the first well before the second
pub put_both : (l : List ℕ) (r at : ℕ) (rs ps r1 p1 : List ℕ) {a c d : List ℕ} {e q : ℕ} → a ≡ put_at (put_at l r rs) at ps → e ≡ at + length ps → c ≡ put_at a e p1
    → q ≡ r + length rs → q + length r1 ≤ at → d ≡ put_at c q r1 → d ≡ put_at (put_at l r (rs ++ r1)) at (ps ++ p1)
put_both l r at rs ps r1 p1 {a} {c} {d} {e} {q} ea ee ec eq h ed =
    ed ∙ ap (λ (m : List ℕ). put_at m q r1) (ec ∙ rw (ea, ee, ← put-append))
    ∙ sym (put_comm (put_at l r rs) q r1 at (ps ++ p1) h)
    ∙ ap (λ (m : List ℕ). put_at m at (ps ++ p1)) (rw (eq, ← put-append))

-- ---- what is held

-- bytes that fit are held where they were stored
pub holds-put : (l : List ℕ) (at : ℕ) (bytes : List ℕ) → at + length bytes ≤ length l → Holds (put_at l at bytes) at bytes
unfolding Holds
holds-put l at bytes fits = part-put l at bytes fits

-- the first and the second of two runs of bytes that are held
pub holds_front : (l : List ℕ) (at : ℕ) (a b : List ℕ) → Holds l at (a ++ b) → Holds l at a
unfolding Holds
holds_front l at a b h =
    sym (take-take (length a) (length (a ++ b)) (drop at l) (omega (arith, length-append a b)))
    ∙ ap (take (length a)) h ∙ take_at a b (length a) refl

pub holds_back : (l : List ℕ) (at : ℕ) (a b : List ℕ) → Holds l at (a ++ b) → Holds l (at + length a) b
unfolding Holds
holds_back l at a b h =
    let front : take (length a) (drop at l) ≡ a = holds_front l at a b h in
    let two : a ++ take (length b) (drop (length a) (drop at l)) ≡ a ++ b =
    ap (λ (m : List ℕ). m ++ take (length b) (drop (length a) (drop at l))) (sym front)
    ∙ sym (take-add (length a) (length b) (drop at l))
    ∙ ap (λ (n : ℕ). take n (drop at l)) (sym (length-append a b)) ∙ h in
    ap (take (length b)) (sym (drop-drop (length a) at l))
    ∙ sym (drop_at a (take (length b) (drop (length a) (drop at l))) (length a) refl) ∙ ap (drop (length a)) two ∙ drop_at a b (length a) refl

pub holds_next : (l : List ℕ) (at : ℕ) (a b : List ℕ) (to : ℕ) → at + length a ≡ to → Holds l at (a ++ b) → Holds l to b
holds_next l at a b to e h = rw e at (holds_back l at a b h)

-- what is held lies in the list
pub holds_fits : (l : List ℕ) (at : ℕ) (bytes : List ℕ) → 0 < length bytes → Holds l at bytes → at + length bytes ≤ length l
unfolding Holds
holds_fits l at bytes some h = omega (arith, length-take (length bytes) (drop at l), length-drop at l, ap length h)

-- one byte, and the part itself
pub holds_byte : (l : List ℕ) (at : ℕ) (bytes : List ℕ) (j : ℕ) → j < length bytes → Holds l at bytes → get_or l (at + j) 0 ≡ get_or bytes j 0
unfolding Holds
holds_byte l at bytes j h held = sym (get_or-drop at l j 0) ∙ sym (get_or-take (length bytes) (drop at l) j 0 h) ∙ ap (λ (m : List ℕ). get_or m j 0) held

pub holds_first : (l : List ℕ) (at x : ℕ) (rest : List ℕ) → Holds l at (x ∷ rest) → get_or l at 0 ≡ x
holds_first l at x rest held =
    let e : at ≡ at + 0 = omega arith in
    ap (λ (i : ℕ). get_or l i 0) e ∙ holds_byte l at (x ∷ rest) 0 (omega arith) held

pub holds-part : (l : List ℕ) (at : ℕ) (bytes : List ℕ) → Holds l at bytes → part l at (length bytes) ≡ bytes
unfolding Holds
holds-part l at bytes held = held
