-- In an image that holds a plan, the chain of item k joins to its whole key.
use mathlib.Core.Path.{◌≡◌, sym, ap, ◌∙◌}
use mathlib.Core.Logic.{⊎_elim}
use mathlib.Core.Bool.{true}
use mathlib.Core.List.{List, ◌++◌}
use Prim.Native.Nat.{ℕ, zero, suc, ◌+◌, ◌≤◌, ◌<◌}
use native.Mathlib.Omega.{arith}
use lib.ListN.{length}
use Rattle.text.specs.Utf8.{is_utf8}
use Rattle.layout.specs.declared.table.Table.{Table}
use Rattle.layout.specs.Limits.{longest_file}
use Rattle.layout.specs.Item.{item_at, no_item}
use Rattle.read_chain.specs.Chain.{fragment_of, Joined, append, key_of}
use Rattle.read_listing.proofs.AnswerLaws.{key_root, key_up}
use Rattle.image.specs.Plan.{Plan, plan_bytes}
use Rattle.image.specs.Laid.{Holds}
use Rattle.image.specs.Fits.{PlanFits, opened_as, laid_item}
use Rattle.words.proofs.ChoiceLaws.{eq_or_ne}
use Rattle.image.proofs.LaidLaws.{holds-part}
use Rattle.image.proofs.PlanLaws.{key_start, read_fragment, fragment_ends}
use Rattle.image.proofs.OpenLaws.{laid_item_lem}
use Rattle.laid.specs.Keys.{PlanKeys}

module _ (img : List ℕ) (p : Plan) (at : ℕ) (held : Holds img at (plan_bytes p at)) (short : length img ≤ longest_file) (fits : PlanFits p) where
  abbrev table : Table
  table = opened_as at p.filter p.count

  -- the fragment of item k is the fragment laid, and it lies in the image
  pub laid_fragment : (k : ℕ) → k < p.count → fragment_of img (item_at img table k) ≡ p.fragment k
  unfolding fragment_of laid_item
  laid_fragment k l = rw (laid_item_lem img p at held short fits k l) (holds-part img (key_start img p at held k) (p.fragment k) (read_fragment img p at held k l))

  laid_inside : (k : ℕ) → k < p.count → (item_at img table k).key + (item_at img table k).size ≤ length img
  unfolding laid_item
  laid_inside k l = rw (laid_item_lem img p at held short fits k l) (fragment_ends img p at held k l)

  laid_parent : (k : ℕ) → k < p.count → (item_at img table k).parent ≡ p.parent k
  unfolding laid_item
  laid_parent k l = rw (laid_item_lem img p at held short fits k l)

  module _ (key : ℕ → List ℕ) (rank : ℕ → ℕ) (keys : PlanKeys p key rank) where
    laid_text : (k : ℕ) → k < p.count → is_utf8 (fragment_of img (item_at img table k)) ≡ true
    laid_text k l = rw (laid_fragment k l) (keys.utf8 k l)

    root_joined : (steps k : ℕ) → k < p.count → p.parent k ≡ no_item → key_of img table (suc steps) k ≡ Joined.joined (key k)
    root_joined steps k l e =
        key_root img table steps k (laid_inside k l) (laid_text k l) (laid_parent k l ∙ e) ∙ ap Joined.joined (laid_fragment k l ∙ keys.root k l e)

    laid_above : (k : ℕ) → k < p.count → (p.parent k ≡ no_item → ⊥) → (item_at img table k).parent < table.count
    unfolding opened_as
    laid_above k l n = rw (laid_parent k l) (keys.child k l n).within

    child_joined : (steps k : ℕ) → k < p.count → (p.parent k ≡ no_item → ⊥) → key_of img table steps (p.parent k) ≡ Joined.joined (key (p.parent k))
        → key_of img table (suc steps) k ≡ Joined.joined (key k)
    unfolding append
    child_joined steps k l n above =
        key_up img table steps k (laid_inside k l) (laid_text k l) (λ e. n (sym (laid_parent k l) ∙ e)) (laid_above k l n)
        ∙ ap (λ (i : ℕ). append (key_of img table steps i) (fragment_of img (item_at img table k))) (laid_parent k l)
        ∙ ap (λ (j : Joined). append j (fragment_of img (item_at img table k))) above
        ∙ ap Joined.joined (ap (λ (f : List ℕ). key (p.parent k) ++ f) (laid_fragment k l) ∙ sym (keys.child k l n).joins)

    -- the key of item k, by a chain of at most so many items
    pub key_joined : (steps k : ℕ) → k < p.count → rank k < steps → key_of img table steps k ≡ Joined.joined (key k)
    key_joined zero k l r = absurd (omega arith)
    key_joined (suc steps) k l r =
        ⊎_elim
        (λ e. root_joined steps k l e)
        (λ n. let c = keys.child k l n in child_joined steps k l n (key_joined steps (p.parent k) c.within (omega (arith, c.falls))))
        (eq_or_ne (p.parent k) no_item)

    -- a chain of no more items than the table has is enough
    pub key_whole : (k : ℕ) → k < p.count → key_of img table p.count k ≡ Joined.joined (key k)
    key_whole k l = key_joined p.count k l (keys.ranked k l)
