-- Laws of a chain by falling keys: the place of an item, and the chain with the item put there.
use mathlib.Core.Path.{◌≡◌, refl, sym, ap, ◌∙◌, subst}
use mathlib.Core.Logic.{⊎_elim}
use mathlib.Core.Bool.{Bool, true, false}
use mathlib.Core.List.{List, [], ◌∷◌}
use Prim.Native.Nat.{ℕ, ◌+◌, ◌≤◌, ◌<◌}
use native.Mathlib.Omega.{arith}
use lib.Dec.{eqb}
use borrow.Author.Tests.{eq-eqb, ne_eqb}
use lib.ListN.{length, get_or, set, length-set}
use lib.Seq.{get_or-set_same, get_or-set_other}
use Rattle.words.specs.Choice.{pick}
use Rattle.words.proofs.ChoiceLaws.{eq_or_ne, pick_with}
use Rattle.key_order.specs.Order.{precedes}
use Rattle.layout.specs.Limits.{most_items}
use Rattle.layout.specs.Item.{no_item}
use Rattle.model.specs.Table.{times, Has}
use Rattle.build_memory.specs.Memory.{links_from, least_words}
use Rattle.image.proofs.TimesLaws.{times_none, times_here, times_cons, has_cases}
use Rattle.write_order.specs.Fall.{put_falling, last_above}
use Rattle.write_order.specs.Chain.{Chain, links_of, linked, headed, Placed}
use Rattle.write_order.proofs.ChainLaws.{chain_set}
use Rattle.write_order.proofs.LinkLaws.{link_at, link_set}

-- ---- the place of an item

-- a chain of equal links, from an equal head
chain_is : (links links' : List ℕ) (h h' : ℕ) (l l' : List ℕ) → links ≡ links' → h ≡ h' → l ≡ l' → Chain links h l → Chain links' h' l'
chain_is links links' h h' l l' p q r c = subst (λ (x : List ℕ). Chain x h' l') p (subst (λ (x : ℕ). Chain links x l') q (subst (λ (x : List ℕ). Chain links h x) r c))

module _ (key : ℕ → List ℕ) (i : ℕ) where
  pub above_stop : (last j : ℕ) (l : List ℕ) → precedes (key i) (key j) ≡ false → last_above key i last (j ∷ l) ≡ last
  unfolding last_above pick
  above_stop last j l e = rw e

  pub above_on : (last j : ℕ) (l : List ℕ) → precedes (key i) (key j) ≡ true → last_above key i last (j ∷ l) ≡ last_above key i j l
  unfolding last_above pick
  above_on last j l e = rw e

  put_stop : (j : ℕ) (l : List ℕ) → precedes (key i) (key j) ≡ false → put_falling key i (j ∷ l) ≡ i ∷ j ∷ l
  unfolding put_falling pick
  put_stop j l e = rw e

  put_on : (j : ℕ) (l : List ℕ) → precedes (key i) (key j) ≡ true → put_falling key i (j ∷ l) ≡ j ∷ put_falling key i l
  unfolding put_falling pick
  put_on j l e = rw e

  -- it is one of the items, or the one before them
  pub above_has : (last : ℕ) (l : List ℕ) → Has (last ∷ l) (last_above key i last l)
  unfolding last_above
  above_has last [] = omega (arith, times_here last last [] refl)
  above_has last (j ∷ l) = by (precedes (key i) (key j)) refl (above_has j l)
    where
      by : (t : Bool) → precedes (key i) (key j) ≡ t → Has (j ∷ l) (last_above key i j l) → Has (last ∷ j ∷ l) (last_above key i last (j ∷ l))
      by false e there = rw (above_stop last j l e) (omega (arith, times_here last last (j ∷ l) refl))
      by true e there = rw (above_on last j l e) (omega (arith, there, times_cons (last_above key i j l) last (j ∷ l)))

-- only the keys of the items count
pub above_same : (key other : ℕ → List ℕ) (i last : ℕ) (l : List ℕ) → key i ≡ other i → ((x : ℕ) → Has l x → key x ≡ other x) → last_above key i last l ≡ last_above other i last l
unfolding last_above
above_same key other i last [] e same = refl
above_same key other i last (j ∷ l) e same =
    let f : key j ≡ other j = same j (omega (arith, times_here j j l refl)) in
    let rest : last_above key i j l ≡ last_above other i j l = above_same key other i j l e (λ x h. same x (omega (arith, h, times_cons x j l))) in
    rw (e, f, rest)

-- ---- an item put into a chain

-- the links and the heads, by where i is put

linked_front : (links : List ℕ) (head last i : ℕ) → last ≡ no_item → linked links head last i ≡ set links i head
unfolding linked pick
linked_front links head last i e = rw (eq-eqb last no_item e)

linked_behind : (links : List ℕ) (head last i : ℕ) → (last ≡ no_item → ⊥) → linked links head last i ≡ set (set links i (get_or links last 0)) last i
unfolding linked pick
linked_behind links head last i n = rw (ne_eqb last no_item n)

headed_front : (heads : List ℕ) (b last i : ℕ) → last ≡ no_item → headed heads b last i ≡ set heads b i
unfolding headed pick
headed_front heads b last i e = rw (eq-eqb last no_item e)

headed_behind : (heads : List ℕ) (b last i : ℕ) → (last ≡ no_item → ⊥) → headed heads b last i ≡ heads
unfolding headed pick
headed_behind heads b last i n = rw (ne_eqb last no_item n)

-- what stands in a list once does not stand in the rest
once_rest : (x : ℕ) (l : List ℕ) → times x (x ∷ l) ≤ 1 → times x l ≡ 0
once_rest x l one = omega (arith, one, times_here x x l refl)

-- what stands in a chain has a link
chain_inside : (links : List ℕ) (h : ℕ) (l : List ℕ) (x : ℕ) → Chain links h l → Has l x → (x < length links) × (x < no_item)
unfolding Chain
chain_inside links h [] x c there = absurd (omega (arith, there, times_none x))
chain_inside links h (y ∷ l) x c there =
    ⊎_elim (λ e. rw (← e) (c.1, c.2)) (λ m. chain_inside links (get_or links y 0) l x c.3 m) (has_cases y x l there)

-- what stands behind q in a chain, once i is put into it
module _ (key : ℕ → List ℕ) (links : List ℕ) (i : ℕ) (fits : i < length links) (small : i < no_item) where
  -- the links with i behind `last`
  abbrev behind : ℕ → List ℕ
  behind last = set (set links i (get_or links last 0)) last i

  -- a chain that holds neither stays
  behind_other : (last h : ℕ) (m : List ℕ) → times i m ≡ 0 → times last m ≡ 0 → Chain links h m → Chain (behind last) h m
  behind_other last h m new apart c = chain_set (set links i (get_or links last 0)) last i h m apart (chain_set links i (get_or links last 0) h m new c)

  -- i stands behind `last`, and behind i what stood there
  behind_here : (last : ℕ) (m : List ℕ) → last < length links → (last ≡ i → ⊥) → times i m ≡ 0 → times last m ≡ 0 → Chain links (get_or links last 0) m
      → Chain (behind last) (get_or (behind last) last 0) (i ∷ m)
  unfolding Chain
  behind_here last m inside differ new apart c = (
    get_or-set_same (set links i (get_or links last 0)) last i 0 (simp length-set inside),
    simp length-set fits,
    small,
    rw (get_or-set_other (set links i (get_or links last 0)) last i i 0 (λ e. differ (sym e)), get_or-set_same links i (get_or links last 0) 0 fits) (behind_other last (get_or links last 0) m new apart c),
  )

  chain_behind : (q : ℕ) (l : List ℕ) → q < length links → (q ≡ i → ⊥) → times q l ≡ 0 → times i l ≡ 0 → ((x : ℕ) → times x l ≤ 1) → Chain links (get_or links q 0) l
      → Chain (behind (last_above key i q l)) (get_or (behind (last_above key i q l)) q 0) (put_falling key i l)
  unfolding last_above put_falling Chain
  chain_behind q [] inside differ apart new once c = behind_here q [] inside differ new apart c
  chain_behind q (j ∷ l) inside differ apart new once c =
      by (precedes (key i) (key j)) refl (chain_behind j l c.1 (λ e. omega (arith, times_here i j l e)) (once_rest j l (once j)) (omega (arith, times_cons i j l)) (λ x. omega (arith, once x, times_cons x j l)) c.3)
    where
      rest : ℕ
      rest = last_above key i j l

      by : (t : Bool) → precedes (key i) (key j) ≡ t → Chain (behind rest) (get_or (behind rest) j 0) (put_falling key i l)
          → Chain (behind (last_above key i q (j ∷ l))) (get_or (behind (last_above key i q (j ∷ l))) q 0) (put_falling key i (j ∷ l))
      by false e deep = rw (above_stop key i q j l e, put_stop key i j l e) (behind_here q (j ∷ l) inside differ new apart c)
      by true e deep = rw (above_on key i q j l e, put_on key i j l e) (
        get_or-set_other (set links i (get_or links rest 0)) rest q i 0 (λ f. omega (arith, above_has key i j l, ap (λ (x : ℕ). times x (j ∷ l)) (sym f))) ∙ get_or-set_other links i q (get_or links rest 0) 0 differ ∙ c.0,
        simp length-set c.1,
        c.2,
        deep,
      )

  -- i at the front
  front_chain : (heads : List ℕ) (b : ℕ) (l : List ℕ) → b < length heads → times i l ≡ 0 → Chain links (get_or heads b 0) l
      → Chain (set links i (get_or heads b 0)) (get_or (set heads b i) b 0) (i ∷ l)
  unfolding Chain
  front_chain heads b l inside new c = (
    get_or-set_same heads b i 0 inside,
    simp length-set fits,
    small,
    rw (get_or-set_same links i (get_or heads b 0) 0 fits) (chain_set links i (get_or heads b 0) (get_or heads b 0) l new c),
  )

  -- the chain with i in it
  pub linked_chain : (heads : List ℕ) (b : ℕ) (l : List ℕ) → b < length heads → times i l ≡ 0 → ((x : ℕ) → times x l ≤ 1) → Chain links (get_or heads b 0) l
      → Chain (linked links (get_or heads b 0) (last_above key i no_item l) i) (get_or (headed heads b (last_above key i no_item l) i) b 0) (put_falling key i l)
  unfolding last_above put_falling Chain
  linked_chain heads b [] inside new once c =
      rw (linked_front links (get_or heads b 0) no_item i refl, headed_front heads b no_item i refl) (front_chain heads b [] inside new c)
  linked_chain heads b (j ∷ l) inside new once c = by (precedes (key i) (key j)) refl
    where
      by : (t : Bool) → precedes (key i) (key j) ≡ t
          → Chain (linked links (get_or heads b 0) (last_above key i no_item (j ∷ l)) i) (get_or (headed heads b (last_above key i no_item (j ∷ l)) i) b 0) (put_falling key i (j ∷ l))
      by false e =
          let stop = above_stop key i no_item j l e in
          let links_same : set links i (get_or heads b 0) ≡ linked links (get_or heads b 0) (last_above key i no_item (j ∷ l)) i =
          sym (ap (λ (x : ℕ). linked links (get_or heads b 0) x i) stop ∙ linked_front links (get_or heads b 0) no_item i refl) in
          let head_same : get_or (set heads b i) b 0 ≡ get_or (headed heads b (last_above key i no_item (j ∷ l)) i) b 0 =
          sym (ap (λ (x : ℕ). get_or (headed heads b x i) b 0) stop ∙ ap (λ (x : List ℕ). get_or x b 0) (headed_front heads b no_item i refl)) in
          chain_is _ _ _ _ _ _ links_same head_same (sym (put_stop key i j l e)) (front_chain heads b (j ∷ l) inside new c)
      by true e =
          let last = last_above key i j l in
          let some : last ≡ no_item → ⊥ = λ f. omega (arith, (chain_inside links (get_or heads b 0) (j ∷ l) last c (above_has key i j l)).1) in
          let deep = chain_behind j l c.1 (λ f. omega (arith, times_here i j l f)) (once_rest j l (once j)) (omega (arith, times_cons i j l)) (λ x. omega (arith, once x, times_cons x j l)) c.3 in
          let on = above_on key i no_item j l e in
          let links_same : behind last ≡ linked links (get_or heads b 0) (last_above key i no_item (j ∷ l)) i =
          sym (ap (λ (x : ℕ). linked links (get_or heads b 0) x i) on ∙ linked_behind links (get_or heads b 0) last i some) in
          let head_same : get_or heads b 0 ≡ get_or (headed heads b (last_above key i no_item (j ∷ l)) i) b 0 =
          sym (ap (λ (x : ℕ). get_or (headed heads b x i) b 0) on ∙ ap (λ (x : List ℕ). get_or x b 0) (headed_behind heads b last i some)) in
          chain_is _ _ _ _ _ _ links_same head_same (sym (put_on key i j l e)) (c.0, simp length-set c.1, c.2, deep)

  -- a chain of other items stays
  pub linked_other : (heads : List ℕ) (b : ℕ) (l : List ℕ) (h : ℕ) (m : List ℕ) → times i m ≡ 0 → ((x : ℕ) → Has l x → times x m ≡ 0) → Chain links h m
      → Chain (linked links (get_or heads b 0) (last_above key i no_item l) i) h m
  linked_other heads b l h m new apart c =
      let last = last_above key i no_item l in
      ⊎_elim
      (λ e. rw (linked_front links (get_or heads b 0) last i e) (chain_set links i (get_or heads b 0) h m new c))
      (λ n. rw (linked_behind links (get_or heads b 0) last i n) (behind_other last h m new
      (apart last (⊎_elim (λ e. absurd (n (sym e))) (λ there. there) (has_cases no_item last l (above_has key i no_item l)))) c))
      (eq_or_ne last no_item)

-- the links keep their length, and any other item keeps its link
pub length-linked : (links : List ℕ) (head last i : ℕ) → length (linked links head last i) ≡ length links
unfolding linked
length-linked links head last i =
    pick_with (λ (m : List ℕ). length m ≡ length links) (eqb last no_item) (set links i head) (set (set links i (get_or links last 0)) last i)
    (λ _. length-set links i head) (λ _. length-set (set links i (get_or links last 0)) last i ∙ length-set links i (get_or links last 0))

pub linked_same : (links : List ℕ) (head last i x : ℕ) → (x ≡ i → ⊥) → (x ≡ last → ⊥) → get_or (linked links head last i) x 0 ≡ get_or links x 0
unfolding linked
linked_same links head last i x n m =
    pick_with (λ (l : List ℕ). get_or l x 0 ≡ get_or links x 0) (eqb last no_item) (set links i head) (set (set links i (get_or links last 0)) last i)
    (λ _. get_or-set_other links i x head 0 n)
    (λ _. get_or-set_other (set links i (get_or links last 0)) last x i 0 m ∙ get_or-set_other links i x (get_or links last 0) 0 n)

-- the other heads stay
pub headed_other : (heads : List ℕ) (b last i d : ℕ) → (d ≡ b → ⊥) → get_or (headed heads b last i) d 0 ≡ get_or heads d 0
headed_other heads b last i d n =
    ⊎_elim
    (λ e. rw (headed_front heads b last i e) (get_or-set_other heads b d i 0 n))
    (λ f. rw (headed_behind heads b last i f))
    (eq_or_ne last no_item)

-- ---- the same through the words

module _ (ws heads : List ℕ) (key : ℕ → List ℕ) (b i : ℕ) (long : least_words ≤ length ws) (small : i < most_items) {last : ℕ}
    (is : (l : List ℕ) → Chain (links_of ws) (get_or heads b 0) l → last ≡ last_above key i no_item l) where
  pub placed_front : last ≡ no_item → Placed key (links_of ws) heads b i (links_of (set ws (links_from + i) (get_or heads b 0))) (set heads b i)
  unfolding Placed
  placed_front e l c =
      rw (← (is l c)) (link_set ws i (get_or heads b 0) small ∙ sym (linked_front (links_of ws) (get_or heads b 0) last i e), sym (headed_front heads b last i e))

  pub placed_behind : last < most_items → (last ≡ no_item → ⊥)
      → Placed key (links_of ws) heads b i (links_of (set (set ws (links_from + i) (get_or ws (links_from + last) 0)) (links_from + last) i)) heads
  unfolding Placed
  placed_behind inside n l c =
      rw (← (is l c)) (
        link_set (set ws (links_from + i) (get_or ws (links_from + last) 0)) last i inside
            ∙ ap (λ (m : List ℕ). set m last i) (link_set ws i (get_or ws (links_from + last) 0) small ∙ ap (set (links_of ws) i) (sym (link_at ws long last inside)))
            ∙ sym (linked_behind (links_of ws) (get_or heads b 0) last i n),
        sym (headed_behind heads b last i n),
      )
