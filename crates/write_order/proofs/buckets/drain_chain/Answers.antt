-- `write_order::buckets::drain_chain` meets its contract. The invariant: the chain is split into the ranks passed, which are in `order` and whose
-- links are cleared, and the rest, which is still chained.
use mathlib.Core.Path.{◌≡◌, refl, sym, ap, ◌∙◌}
use mathlib.Core.List.{List, [], ◌∷◌, ◌++◌, append_assoc, append-nil}
use Prim.Native.Nat.{ℕ, ◌+◌, ◌≤◌}
use native.Mathlib.Omega.{arith}
use lib.ListN.{length, get_or, length-set, length-append}
use Rattle.words.specs.Store.{put_at}
use Rattle.words.proofs.StoreLaws.{put-none, put_snoc}
use Rattle.model.specs.Table.{times}
use Rattle.image.proofs.TimesLaws.{times_here, times_cons}
use Rattle.layout.specs.Item.{no_item}
use Rattle.write_order.specs.Chain.{Chain, cleared, Drained}
use Rattle.write_order.proofs.ChainLaws.{chain_set, chain_unique, cleared_nil, cleared_snoc}
use Rattle.write_order.proofs.buckets.drain_chain.Invariants.{Draining, Turn}
use Rattle.write_order.proofs.buckets.drain_chain.Goals as goal

module _ {links₀ order₀ : List ℕ} {head at : ℕ} {links order : List ℕ} {p end : ℕ} where
  turn_at : (done rest : List ℕ) → Chain links₀ head (done ++ rest) → Chain links p rest → ((x : ℕ) → times x rest ≤ 1)
      → end ≡ at + length done → order ≡ put_at order₀ at done → links ≡ cleared links₀ done → end + length rest ≤ length order₀ → length links ≡ length links₀
      → length order ≡ length order₀ → (p ≡ no_item → ⊥) → Turn links₀ order₀ head at links order p end
  unfolding Chain
  turn_at done [] w c d e o k f ll lo n = absurd (n c)
  turn_at done (x ∷ rest) w c d e o k f ll lo n =
      record {
        linked = omega (arith, c.0, c.1);
        room = omega arith;
        next = rw c.0 (record {
          done = done ++ (x ∷ []);
          rest = rest;
          whole = rw append_assoc w;
          chained = chain_set links x no_item (get_or links x 0) rest (omega (arith, d x, times_here x x rest refl)) c.3;
          once = λ y. omega (arith, d y, times_cons y x rest);
          end_is = simp length-append (omega arith);
          order_is = rw (put_snoc, ← o, ← e);
          links_is = rw (cleared_snoc, ← k);
          fits = omega arith;
          links_long = length-set links x no_item ∙ ll;
          order-long = length-set order end x ∙ lo;
        });
      }

  turn : Draining links₀ order₀ head at links order p end → (p ≡ no_item → ⊥) → Turn links₀ order₀ head at links order p end
  turn s n = turn_at s.done s.rest s.whole s.chained s.once s.end_is s.order_is s.links_is s.fits s.links_long s.order-long n

  -- at the empty mark nothing is left
  drained : Draining links₀ order₀ head at links order p end → p ≡ no_item → Drained links₀ links order₀ order head at end
  unfolding Drained Chain
  drained s e l c =
      let none : s.rest ≡ [] = chain_unique links p s.rest [] s.chained e in
      let all : s.done ≡ l =
      sym (append-nil s.done) ∙ ap (λ (r : List ℕ). s.done ++ r) (sym none) ∙ chain_unique links₀ head (s.done ++ s.rest) l s.whole c in
      record { end_is = rw all at s.end_is; order_is = rw all at s.order_is; links_is = rw all at s.links_is }

pub loop-p-init : goal.loop-p-init
loop-p-init c =
    record {
      done = [];
      rest = c.requires.places;
      whole = c.requires.chain;
      chained = c.requires.chain;
      once = c.requires.once;
      end_is = omega arith;
      order_is = sym (put-none _ _);
      links_is = sym (cleared_nil _);
      fits = c.requires.fits;
      links_long = refl;
      order-long = refl;
    }

pub bounds-order-end : goal.bounds-order-end
bounds-order-end c = let t = turn c.loop-p.invariant c.loop-p-test.true in omega (arith, t.room)

pub offset_bounds-links-p : goal.offset_bounds-links-p
offset_bounds-links-p c = let t = turn c.loop-p.invariant c.loop-p-test.true in omega (arith, t.linked, t.room)

pub bounds-links-p : goal.bounds-links-p
bounds-links-p c = let t = turn c.loop-p.invariant c.loop-p-test.true in omega (arith, t.linked)

pub offset_bounds-links-p-in-loop-p : goal.offset_bounds-links-p-in-loop-p
offset_bounds-links-p-in-loop-p c = let t = turn c.loop-p.invariant c.loop-p-test.true in omega (arith, t.linked)

pub bounds-links-p-in-loop-p : goal.bounds-links-p-in-loop-p
bounds-links-p-in-loop-p c = let t = turn c.loop-p.invariant c.loop-p-test.true in omega (arith, t.linked)

pub loop-p-smaller : goal.loop-p-smaller
loop-p-smaller c = let t = turn c.loop-p.invariant c.loop-p-test.true in omega (arith, t.room)

pub loop-p-preserved : goal.loop-p-preserved
loop-p-preserved c = (turn c.loop-p.invariant c.loop-p-test.true).next

pub returns : goal.returns
returns c = drained c.loop-p.invariant c.loop-p-test.false
