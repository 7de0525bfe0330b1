-- `write_order::buckets::index_all` meets its contract. The invariant, for all lists that are chained: those before b are in `order` and their links are
-- cleared, and the chains of the others stand.
use mathlib.Core.Path.{◌≡◌, refl, sym, ◌∙◌}
use mathlib.Core.Logic.{⊎_elim}
use mathlib.Core.List.{List}
use Prim.Native.Nat.{ℕ, ◌+◌, ◌≤◌, ◌<◌}
use native.Mathlib.Nat.{eq-or-lt_of_le}
use native.Mathlib.Numerals.{add-one}
use native.Mathlib.Omega.{arith}
use lib.ListN.{length, get_or, set, length-append}
use Rattle.words.proofs.StoreLaws.{put-none, put-append, put_snoc}
use Rattle.words.proofs.ChoiceLaws.{lt_or_ge}
use Rattle.model.specs.Table.{times}
use Rattle.layout.specs.Item.{no_item}
use Rattle.build_memory.specs.Meaning.{listed}
use Rattle.build_memory.proofs.MeaningLaws.{length-listed}
use Rattle.write_order.specs.Fall.{joined}
use Rattle.write_order.specs.Chain.{Empty, Chains, cleared, Ended, DrainedOf, Drained}
use Rattle.write_order.proofs.ChainLaws.{cleared_other, cleared_here, chain_cleared, joined_fits}
use Rattle.write_order.proofs.buckets.index_all.Invariants.{starting, Buckets}
use Rattle.write_order.proofs.buckets.index_all.Goals as goal

-- at the first bucket every chain stands
begin : {lists : ℕ → List ℕ} (n : ℕ) (heads links order firsts : List ℕ) → Chains lists n heads links → Buckets lists n heads order firsts links order firsts 0 0
unfolding joined listed
begin n heads links order firsts c = record {
  end_is = refl;
  order_is = sym (put-none order 0);
  firsts_is = sym (put-none firsts 0);
  later = λ d _ l. c.chain d l;
  clear = λ x l none. c.clear x l (λ d h. none d (omega arith) h);
}

-- once a chain is drained, one list more is in `order`
module _ {lists : ℕ → List ℕ} {n : ℕ} {heads links₀ order₀ firsts₀ links order firsts : List ℕ} {b end : ℕ} (c : Chains lists n heads links₀)
    (s : Buckets lists n heads order₀ firsts₀ links order firsts b end) (more : b < n) where
  clear_next : (x : ℕ) → x < length links → ((d : ℕ) → b + 1 ≤ d → d < n → times x (lists d) ≡ 0) → get_or (cleared links (lists b)) x 0 ≡ no_item
  clear_next x l none =
      ⊎_elim
      (λ some. cleared_here links (lists b) x some l)
      (λ (here : times x (lists b) ≤ 0). cleared_other links (lists b) x (omega arith)
      ∙ s.clear x l (λ d low high. ⊎_elim (λ e. rw (← e) (omega arith)) (λ above. none d (omega arith) high) (eq-or-lt_of_le low)))
      (lt_or_ge 0 (times x (lists b)))

  next : {links' order' : List ℕ} {end' : ℕ} → length links' ≡ length links → Drained links links' order order' (get_or heads b 0) end end'
      → Buckets lists n heads order₀ firsts₀ links' order' (set firsts b end) (b + 1) end'
  unfolding Drained joined listed
  next {links'} {order'} {end'} long d =
      let r : DrainedOf links links' order order' end end' (lists b) = d (lists b) (s.later b (omega arith) more) in
      let at_end : 0 + length (joined lists b) ≡ end = omega (arith, s.end_is) in
      let at_b : 0 + length (listed (starting lists) b) ≡ b = omega (arith, length-listed (starting lists) b) in
      record {
        end_is = rw (add-one, length-append) (omega (arith, r.end_is, s.end_is));
        order_is = r.order_is ∙ rw (add-one, put-append, at_end, ← s.order_is);
        firsts_is = rw (add-one, put_snoc, at_b, ← s.firsts_is, ← s.end_is);
        later = λ e low high. rw r.links_is
            (chain_cleared links (get_or heads e 0) (lists b) (lists e) (λ x some. c.apart b e x (λ q. omega arith) some) (s.later e (omega arith) high));
        clear = λ x l none. rw r.links_is (clear_next x (omega (arith, long)) none);
      }

  -- the next chain can be drained
  ended : n ≤ length order → Ended links (get_or heads b 0) (length order) end
  ended room = record {
    places = lists b;
    chain = s.later b (omega arith) more;
    once = c.once b;
    fits = omega (arith, joined_fits lists b n more, c.few, s.end_is);
  }

pub loop-b-init : goal.loop-b-init
loop-b-init c = λ lists h. begin _ _ _ _ _ h

pub drain_chain-next-requires : goal.drain_chain-next-requires
drain_chain-next-requires c =
    let h = c.requires.has_chains.chains in ended h (c.loop-b.invariant _ h) c.loop-b-test.true (omega (arith, c.requires.n_in_bounds.1.in_order))

pub loop-b-preserved : goal.loop-b-preserved
loop-b-preserved c = λ lists h. next h (c.loop-b.invariant lists h) c.loop-b-test.true c.drain_chain-next.auto.links c.drain_chain-next.ensures

pub returns-clause-empty : goal.returns-clause-empty
unfolding Empty
returns-clause-empty c =
    let h = c.requires.has_chains.chains in λ x l. (c.loop-b.invariant _ h).clear x l (λ d low high. absurd (omega arith))
