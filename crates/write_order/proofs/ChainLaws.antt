-- Laws of chains: ranks put at the front, chains taken apart, links that hold the empty mark again.
use mathlib.Core.Path.{◌≡◌, refl, sym, ap, ◌∙◌, subst}
use mathlib.Core.Logic.{⊎_elim}
use mathlib.Core.List.{List, [], ◌∷◌, ◌++◌}
use Prim.Native.Nat.{ℕ, zero, suc, ◌+◌, ◌≤◌, ◌<◌}
use native.Mathlib.Nat.{eq-or-lt_of_le, le_of_suc-le-suc}
use native.Mathlib.Numerals.{add-one}
use native.Mathlib.Omega.{arith}
use lib.ListN.{length, get_or, set, length-set, length-append, replicate, get_or-replicate, length-replicate}
use lib.Seq.{ext_get_or, get_or-set_same, get_or-set_other}
use Rattle.model.specs.Table.{times, Has}
use Rattle.image.specs.Index.{bucket_of, run, runs_below, bucket_start}
use Rattle.words.proofs.ChoiceLaws.{eq_or_ne, lt_or_ge}
use Rattle.image.proofs.TimesLaws.{times_none, times_here, times_cons, has_cases}
use Rattle.image.proofs.RunLaws.{run_cases, run_above, run_other, run_once, times-run, bucket_within, start-most}
use Rattle.build_memory.specs.Meaning.{listed}
use Rattle.build_memory.proofs.MeaningLaws.{length-listed, listed_at}
use Rattle.layout.specs.Item.{no_item}
use Rattle.write_order.specs.Fall.{joined}
use Rattle.write_order.specs.Chain.{starts, Empty, EmptyFrom, Chain, Chained, Chains, cleared}

-- ---- chains

-- what does not stand in a list is not its first item, and does not stand in the rest
not_first : (y x : ℕ) (l : List ℕ) → times y (x ∷ l) ≡ 0 → x ≡ y → ⊥
not_first y x l none e = omega (arith, times_here y x l e)

not_rest : (y x : ℕ) (l : List ℕ) → times y (x ∷ l) ≡ 0 → times y l ≡ 0
not_rest y x l none = omega (arith, times_cons y x l)

-- a store at a rank that a chain does not hold leaves the chain
pub chain_set : (links : List ℕ) (y v h : ℕ) (l : List ℕ) → times y l ≡ 0 → Chain links h l → Chain (set links y v) h l
unfolding Chain
chain_set links y v h [] none c = c
chain_set links y v h (x ∷ l) none c = (
  c.0,
  rw length-set c.1,
  c.2,
  rw (get_or-set_other links y x v 0 (not_first y x l none)) (chain_set links y v (get_or links x 0) l (not_rest y x l none) c.3),
)

-- one head, one chain
pub chain_unique : (links : List ℕ) (h : ℕ) (l m : List ℕ) → Chain links h l → Chain links h m → l ≡ m
unfolding Chain
chain_unique links h [] [] c d = refl
chain_unique links h [] (y ∷ m) c d = absurd (omega (arith, c, d.0, d.2))
chain_unique links h (x ∷ l) [] c d = absurd (omega (arith, d, c.0, c.2))
chain_unique links h (x ∷ l) (y ∷ m) c d =
    let e : x ≡ y = sym c.0 ∙ d.0 in
    let t : l ≡ m = chain_unique links (get_or links x 0) l m c.3 (rw e d.3) in
    rw (e, t)

-- ---- a rank put at the front of its bucket's chain

module _ (hashes : List ℕ) where
  pub chained_none : (heads links : List ℕ) → length hashes ≤ length heads → Empty heads → Chained hashes 0 heads links
  unfolding Chained Chain run Empty
  chained_none heads links h e b l = e b (omega arith)

  chained_front : (k : ℕ) (heads links : List ℕ) → bucket_of hashes k < length heads → k < length links → k < no_item → Chained hashes k heads links
      → (b : ℕ) → b < length hashes → bucket_of hashes k ≡ b → Chain (set links k (get_or heads (bucket_of hashes k) 0)) (get_or (set heads (bucket_of hashes k) k) b 0) (k ∷ run hashes b k)
  unfolding Chained Chain
  chained_front k heads links inh fits small c b l e =
      let at = bucket_of hashes k in
      let inside : bucket_of hashes k < length hashes = omega (arith, e, l) in
      subst (λ (x : ℕ). Chain (set links k (get_or heads (bucket_of hashes k) 0)) (get_or (set heads (bucket_of hashes k) k) x 0) (k ∷ run hashes x k)) e (
        get_or-set_same heads at k 0 inh,
        rw length-set fits,
        small,
        rw (get_or-set_same links k (get_or heads at 0) 0 fits)
            (chain_set links k (get_or heads at 0) (get_or heads at 0) (run hashes at k) (run_above hashes at k k (omega arith)) (c at inside)),
      )

  pub chained_more : (k : ℕ) (heads links : List ℕ) {b : ℕ} → b ≡ bucket_of hashes k → b < length heads → k < length links → k < no_item
      → Chained hashes k heads links → Chained hashes (k + 1) (set heads b k) (set links k (get_or heads b 0))
  unfolding Chained
  chained_more k heads links here inh fits small c b l =
      rw (here, add-one)
      (run_cases hashes (λ r. Chain (set links k (get_or heads (bucket_of hashes k) 0)) (get_or (set heads (bucket_of hashes k) k) b 0) r) b k
      (λ e. chained_front k heads links (rw here at inh) fits small c b l e)
      (λ n. rw (get_or-set_other heads (bucket_of hashes k) b k 0 (λ q. n (sym q)))
      (chain_set links k (get_or heads (bucket_of hashes k) 0) (get_or heads b 0) (run hashes b k) (run_above hashes b k k (omega arith)) (c b l))))

-- ---- links that hold the empty mark

pub empty_from : (links : List ℕ) → Empty links → EmptyFrom 0 links
unfolding Empty EmptyFrom
empty_from links e i h l = e i l

pub empty_later : (k v : ℕ) (links : List ℕ) → EmptyFrom k links → EmptyFrom (k + 1) (set links k v)
unfolding EmptyFrom
empty_later k v links e i h l = get_or-set_other links k i v 0 (λ q. omega arith) ∙ e i (omega arith) (rw length-set at l)

-- two lists of empty marks of one length
pub empty_same : (a b : List ℕ) → length a ≡ length b → Empty a → Empty b → a ≡ b
unfolding Empty
empty_same a b e p q = ext_get_or 0 a b e (λ i l. p i l ∙ sym (q i (rw e at l)))

-- a fresh array of empty marks
pub empty_fresh : (n : ℕ) → Empty (replicate n no_item)
unfolding Empty
empty_fresh n i l = get_or-replicate n i no_item 0 (rw (length-replicate n no_item) at l)

-- ---- cleared links

pub cleared_nil : (links : List ℕ) → cleared links [] ≡ links
unfolding cleared
cleared_nil links = refl

pub cleared_snoc : (links l : List ℕ) (x : ℕ) → cleared links (l ++ (x ∷ [])) ≡ set (cleared links l) x no_item
unfolding cleared
cleared_snoc links [] x = refl
cleared_snoc links (y ∷ l) x = cleared_snoc (set links y no_item) l x

-- what is not cleared stays
pub cleared_other : (links l : List ℕ) (y : ℕ) → times y l ≡ 0 → get_or (cleared links l) y 0 ≡ get_or links y 0
unfolding cleared
cleared_other links [] y none = refl
cleared_other links (x ∷ l) y none =
    cleared_other (set links x no_item) l y (not_rest y x l none) ∙ get_or-set_other links x y no_item 0 (λ e. not_first y x l none (sym e))

-- what is cleared holds the empty mark
pub cleared_here : (links l : List ℕ) (x : ℕ) → Has l x → x < length links → get_or (cleared links l) x 0 ≡ no_item
unfolding cleared
cleared_here links [] x some h = absurd (omega (arith, times_none x))
cleared_here links (y ∷ l) x some h =
    ⊎_elim
    (λ again. cleared_here (set links y no_item) l x again (rw length-set h))
    (λ none. ⊎_elim
    (λ e. cleared_other (set links y no_item) l x (omega arith) ∙ rw e (get_or-set_same links x no_item 0 h))
    (λ again. absurd (omega arith))
    (has_cases y x l some))
    (lt_or_ge 0 (times x l))

-- a chain none of whose items is cleared stands
pub chain_cleared : (links : List ℕ) (h : ℕ) (l m : List ℕ) → ((x : ℕ) → Has l x → times x m ≡ 0) → Chain links h m → Chain (cleared links l) h m
unfolding cleared
chain_cleared links h [] m apart c = c
chain_cleared links h (x ∷ l) m apart c =
    chain_cleared (set links x no_item) h l m (λ y s. apart y (omega (arith, times_cons y x l))) (chain_set links x no_item h m (apart x (omega (arith, times_here x x l refl))) c)

-- ---- lists one behind the other

-- a list fits behind those before it
pub joined_fits : (lists : ℕ → List ℕ) (b n : ℕ) → b < n → length (joined lists b) + length (lists b) ≤ length (joined lists n)
unfolding joined
joined_fits lists b zero h = absurd (omega arith)
joined_fits lists b (suc n) h =
    ⊎_elim
    (λ e. rw e (omega (arith, length-append (joined lists n) (lists n))))
    (λ l. omega (arith, length-append (joined lists n) (lists n), joined_fits lists b n l))
    (eq-or-lt_of_le (le_of_suc-le-suc h))

module _ (hashes : List ℕ) where
  pub joined_runs_below : (b : ℕ) → joined (λ (d : ℕ). run hashes d (length hashes)) b ≡ runs_below hashes b
  unfolding joined runs_below
  joined_runs_below zero = refl
  joined_runs_below (suc b) = ap (λ (l : List ℕ). l ++ run hashes b (length hashes)) (joined_runs_below b)

  -- the chains of the runs
  pub run_chains : (heads links : List ℕ) → Chained hashes (length hashes) heads links → EmptyFrom (length hashes) links
      → Chains (λ (b : ℕ). run hashes b (length hashes)) (length hashes) heads links
  unfolding Chained EmptyFrom bucket_start
  run_chains heads links c e = record {
    chain = c;
    once = λ b x. run_once hashes b (length hashes) x;
    apart = λ b d x n some. ⊎_elim
        (λ q. run_other hashes d (length hashes) x (λ r. n (sym q ∙ r)))
        (λ m. absurd (omega (arith, run_other hashes b (length hashes) x m)))
        (eq_or_ne (bucket_of hashes x) b);
    clear = λ x l none. ⊎_elim
        (λ less. absurd (omega (arith, none (bucket_of hashes x) (bucket_within hashes x less), times-run hashes x (length hashes) less)))
        (λ ge. e x ge l)
        (lt_or_ge x (length hashes));
    few = rw (joined_runs_below (length hashes)) (start-most hashes (length hashes));
  }

  -- ---- the bucket words

  pub length-starts : length (starts hashes) ≡ length hashes
  unfolding starts
  length-starts = length-listed (bucket_start hashes) (length hashes)

  -- each bucket's word is the definition's
  pub starts_at : (b : ℕ) → b < length hashes → get_or (starts hashes) b 0 ≡ bucket_start hashes b
  unfolding starts
  starts_at b h = listed_at (bucket_start hashes) 0 (length hashes) b h

  -- numbers that are the bucket words, in a list
  pub starts_of : (f : ℕ → ℕ) → ((b : ℕ) → f b ≡ bucket_start hashes b) → listed f (length hashes) ≡ starts hashes
  unfolding starts listed
  starts_of f same = listed_same (length hashes)
    where
      listed_same : (n : ℕ) → listed f n ≡ listed (bucket_start hashes) n
      listed_same zero = refl
      listed_same (suc n) = rw (listed_same n, same n)
