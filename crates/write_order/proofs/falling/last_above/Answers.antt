-- `write_order::falling::last_above` meets its contract. The invariant: from p on the rest of the chain stands, and what is put behind `last` there is put so in all of it.
use mathlib.Core.Path.{◌≡◌, refl, sym, ap, ◌∙◌}
use mathlib.Core.List.{List, [], ◌∷◌}
use Prim.Native.Nat.{ℕ, zero, suc, ◌+◌, ◌≤◌, ◌<◌}
use native.Mathlib.Omega.{arith}
use borrow.Author.Tests.{eq-eqb, ne_eqb}
use lib.ListN.{length, get_or}
use Rattle.words.specs.Choice.{pick}
use Rattle.layout.specs.Limits.{most_items}
use Rattle.layout.specs.Item.{no_item}
use Rattle.build_memory.specs.Memory.{links_from, least_words, key_of}
use Rattle.write_order.specs.Fall.{last_above}
use Rattle.write_order.specs.Chain.{Chain, links_of}
use Rattle.write_order.proofs.ChainLaws.{chain_unique}
use Rattle.write_order.proofs.LinkLaws.{links_long, link_at}
use Rattle.write_order.proofs.PlaceLaws.{above_stop, above_on}
use Rattle.write_order.proofs.falling.last_above.Invariants.{size, Walking, Met}
use Rattle.write_order.proofs.falling.last_above.Goals as goal

size_is : (links : List ℕ) (most p : ℕ) (l : List ℕ) → Chain links p l → length l ≤ most → size links most p ≡ length l
unfolding size Chain pick
size_is links zero p [] c h = refl
size_is links zero p (x ∷ l) c h = absurd (omega arith)
size_is links (suc most) p [] c h = rw (eq-eqb p no_item c)
size_is links (suc most) p (x ∷ l) c h =
    rw (ne_eqb p no_item (λ e. omega (arith, c.0, c.2)), c.0) (ap suc (size_is links most (get_or links x 0) l c.3 (omega arith)))

module _ {words arena : List ℕ} {head i last p : ℕ} (long : least_words ≤ length words) where
  met_at : (rest : List ℕ) → Chain (links_of words) p rest → length rest ≤ most_items
      → ((l : List ℕ) → Chain (links_of words) head l → last_above (key_of words arena) i no_item l ≡ last_above (key_of words arena) i last rest) → (p ≡ no_item → ⊥)
      → Met words arena head i last p
  unfolding Chain
  met_at [] c few same n = absurd (n c)
  met_at (x ∷ rest) c few same n =
      let inside : x < most_items = omega (arith, c.1, links_long words long) in
      let next : get_or (links_of words) x 0 ≡ get_or words (links_from + x) 0 = link_at words long x inside in
      rw c.0 (record {
        inside = inside;
        stop = λ {told} is e l d. sym (same l d ∙ above_stop (key_of words arena) i last x rest (sym is ∙ e));
        on = λ {told} is e. record {
          known = λ _. inside;
          rest = rest;
          chained = rw (← next) c.3;
          few = omega arith;
          same = λ l d. same l d ∙ above_on (key_of words arena) i last x rest (sym is ∙ e);
        };
        less = rw (← next) (omega (
          arith,
          size_is (links_of words) most_items (get_or (links_of words) x 0) rest c.3 (omega arith),
          size_is (links_of words) most_items x (x ∷ rest) (refl, c.1, c.2, c.3) few,
        ));
      })

  met : Walking words arena head i last p → (p ≡ no_item → ⊥) → Met words arena head i last p
  met s n = met_at s.rest s.chained s.few s.same n

  -- at the empty mark nothing is left
  ended : Walking words arena head i last p → p ≡ no_item → (l : List ℕ) → Chain (links_of words) head l → last ≡ last_above (key_of words arena) i no_item l
  unfolding Chain last_above
  ended s e l c = sym (s.same l c ∙ ap (last_above (key_of words arena) i last) (chain_unique (links_of words) p s.rest [] s.chained e))

pub loop-p-init : goal.loop-p-init
loop-p-init c =
    let a = c.args in
    let t = c.requires.2 in
    record {
      known = λ n. absurd (n refl);
      rest = t.items;
      chained = t.chain;
      few = t.few;
      same = λ l d. ap (last_above (key_of a.words.now a.arena.now) a.i no_item) (chain_unique (links_of a.words.now) a.head l t.items d t.chain);
    }

pub comes_before-requires : goal.comes_before-requires
comes_before-requires c =
    let m = met c.requires.0 c.loop-p.invariant c.loop-p-test.true in (c.requires.0, c.requires.1, m.inside)

pub returns-then-not-comes_before-clause-by_index : goal.returns-then-not-comes_before-clause-by_index
returns-then-not-comes_before-clause-by_index c =
    (met c.requires.0 c.loop-p.invariant c.loop-p-test.true).stop c.comes_before.ensures c.if-not-comes_before.true

pub overflow_add-p : goal.overflow_add-p
overflow_add-p c = let m = met c.requires.0 c.loop-p.invariant c.loop-p-test.true in omega (arith, m.inside)

pub offset_bounds-words-p : goal.offset_bounds-words-p
offset_bounds-words-p c = let m = met c.requires.0 c.loop-p.invariant c.loop-p-test.true in omega (arith, m.inside)

pub bounds-words-p : goal.bounds-words-p
bounds-words-p c =
    let m = met c.requires.0 c.loop-p.invariant c.loop-p-test.true in omega (arith, m.inside, c.requires.0)

pub loop-p-smaller : goal.loop-p-smaller
loop-p-smaller c = let m = met c.requires.0 c.loop-p.invariant c.loop-p-test.true in m.less

pub loop-p-preserved : goal.loop-p-preserved
loop-p-preserved c =
    let m = met c.requires.0 c.loop-p.invariant c.loop-p-test.true in m.on c.comes_before.ensures (c.if-not-comes_before.false)

pub returns-clause-by_index : goal.returns-clause-by_index
returns-clause-by_index c = ended c.requires.0 c.loop-p.invariant c.loop-p-test.false
