-- The laws of the walk down a key's containers and of what the rest costs, a step at a time.
use Prim.Native.Nat.{ℕ, suc, ◌+◌, ◌≤◌, ◌<◌}
use native.Mathlib.Omega.{arith}
use mathlib.Core.Path.{◌≡◌, sym, ap, ◌∙◌, subst}
use mathlib.Core.Bool.{Bool, true, false}
use mathlib.Core.List.{List, [], ◌∷◌}
use borrow.Author.Tests.{eq-eqb, ne_eqb, lt-ltb, le-ltb}
use lib.ListN.{length, take}
use Rattle.words.specs.Choice.{pick}
use Rattle.key_hash.specs.Hash.{hash_of}
use Rattle.key_order.specs.Prefix.{ends_past, next_end}
use Rattle.key_order.proofs.PrefixLaws.{past_more, past_last, next_within, next_rises}
use Rattle.layout.specs.Limits.{most_items}
use Rattle.layout.specs.Kind.{container_kind}
use Rattle.build_memory.specs.Memory.{item_total, item_kind, Memory}
use Rattle.build_memory.specs.Find.{find_key}
use Rattle.build_memory.specs.Item.{stored, make_item}
use Rattle.build_values.specs.declared.walk.Way.{Way}
use Rattle.build_values.specs.declared.walk.Walked.{Walked}
use Rattle.build_values.specs.Walk.{way, descend, sum}
use Rattle.build_values.specs.Insert.{extended, containers}

-- ---- the ends past an index, by where the next one is

pub record Further (sep : ℕ) (key : List ℕ) (at e : ℕ) : Type 0 where
  pub rises : at < e
  pub cons : ends_past sep key at ≡ e ∷ ends_past sep key e
  pub number : length (ends_past sep key at) ≡ suc (length (ends_past sep key e))
  pub total : sum (ends_past sep key at) ≡ e + sum (ends_past sep key e)

module _ (sep : ℕ) (key : List ℕ) (at : ℕ) (h : at ≤ length key) (e : ℕ) (is : e ≡ next_end sep key at) where
  pub further : e < length key → Further sep key at e
  unfolding sum
  further l =
      let c : ends_past sep key at ≡ e ∷ ends_past sep key e =
      past_more sep key at h (subst (λ (n : ℕ). n < length key) is l) ∙ ap (λ (n : ℕ). n ∷ ends_past sep key n) (sym is) in
      record {
        rises = subst (λ (n : ℕ). at < n) (sym is) (next_rises sep key at h (omega (arith, (next_within sep key at h).0)));
        cons = c;
        number = ap length c;
        total = ap sum c;
      }

  -- the end of the key itself is the last
  pub last : length key ≤ e → ends_past sep key at ≡ e ∷ []
  last l =
      let q : e ≡ length key = omega (arith, (next_within sep key at h).1) in
      past_last sep key at h (sym is ∙ q) ∙ ap (λ (n : ℕ). n ∷ []) (sym q)

-- ---- the dry walk

module _ (ws ar : List ℕ) (t : ℕ) (key : List ℕ) (e : ℕ) (ends : List ℕ) (from parent : ℕ) where
  descend_end : length key ≤ e → way true from parent ≡ descend ws ar t key (e ∷ ends) from parent
  unfolding descend pick
  descend_end h = simp (le-ltb _ _ h)

  module _ (more : e < length key) (i : ℕ) (is : i ≡ find_key ws ar t (take e key)) where
    descend_miss : item_total ws ≤ i → way true from parent ≡ descend ws ar t key (e ∷ ends) from parent
    unfolding descend pick
    descend_miss h = simp (lt-ltb _ _ more, ← is, le-ltb _ _ h)

    module _ (there : i < item_total ws) where
      descend_block : (item_kind ws i ≡ container_kind → ⊥) → way false from parent ≡ descend ws ar t key (e ∷ ends) from parent
      unfolding descend pick
      descend_block h = simp (lt-ltb _ _ more, ← is, lt-ltb _ _ there, ne_eqb _ _ h)

      descend_pass : item_kind ws i ≡ container_kind → descend ws ar t key (e ∷ ends) from parent ≡ descend ws ar t key ends e (i + 1)
      unfolding descend pick
      descend_pass h = simp (lt-ltb _ _ more, ← is, lt-ltb _ _ there, eq-eqb _ _ h)

-- where the walk ends, with the hash of the key up to there
pub walked_is : (key : List ℕ) (d : Way) (r : Walked) (clear : Bool) (from parent hash : ℕ) → (r.way ≡ way clear from parent) × (r.hash ≡ hash) → way clear from parent ≡ d
    → from ≤ length key → parent ≤ most_items → hash ≡ hash_of (take from key)
    → (r.way ≡ d) × (((r.way.from ≤ length key) × (r.way.parent ≤ most_items)) × (r.hash ≡ hash_of (take r.way.from key)))
walked_is key d r clear from parent hash made is within few hashed =
    let f : r.way.from ≡ from = ap (λ (w : Way). w.from) made.0 in
    let p : r.way.parent ≡ parent = ap (λ (w : Way). w.parent) made.0 in
    (made.0 ∙ is, ((omega arith, omega arith), made.1 ∙ hashed ∙ ap (λ (n : ℕ). hash_of (take n key)) (sym f)))

-- ---- the containers

module _ (t : ℕ) (key : List ℕ) (e : ℕ) (ends : List ℕ) (m : Memory) (parent : ℕ) where
  containers_end : length key ≤ e → extended m parent ≡ containers t key (e ∷ ends) m parent
  unfolding containers pick
  containers_end h = simp (le-ltb _ _ h)

  containers_more : (m' : Memory) → e < length key → m' ≡ make_item m t parent (take e key) (stored container_kind [] 0)
      → containers t key (e ∷ ends) m parent ≡ containers t key ends m' (item_total m.words + 1)
  unfolding containers pick
  containers_more m' h q = simp (lt-ltb _ _ h, q)

-- ---- both, along the ends past an index

module _ (sep : ℕ) (key : List ℕ) (at : ℕ) (h : at ≤ length key) (e : ℕ) (is : e ≡ next_end sep key at) where
  module _ (ws ar : List ℕ) (t parent : ℕ) where
    pub walk_end : length key ≤ e → way true at parent ≡ descend ws ar t key (ends_past sep key at) at parent
    walk_end l = descend_end ws ar t key e [] at parent l ∙ ap (λ (ends : List ℕ). descend ws ar t key ends at parent) (sym (last sep key at h e is l))

    module _ (more : e < length key) (i : ℕ) (found : i ≡ find_key ws ar t (take e key)) where
      along : descend ws ar t key (e ∷ ends_past sep key e) at parent ≡ descend ws ar t key (ends_past sep key at) at parent
      along = ap (λ (ends : List ℕ). descend ws ar t key ends at parent) (sym (further sep key at h e is more).cons)

      pub walk_miss : item_total ws ≤ i → way true at parent ≡ descend ws ar t key (ends_past sep key at) at parent
      walk_miss m = descend_miss ws ar t key e (ends_past sep key e) at parent more i found m ∙ along

      pub walk_block : i < item_total ws → (item_kind ws i ≡ container_kind → ⊥) → way false at parent ≡ descend ws ar t key (ends_past sep key at) at parent
      walk_block m b = descend_block ws ar t key e (ends_past sep key e) at parent more i found m b ∙ along

      pub walk_pass : i < item_total ws → item_kind ws i ≡ container_kind
          → descend ws ar t key (ends_past sep key at) at parent ≡ descend ws ar t key (ends_past sep key e) e (i + 1)
      walk_pass m b = sym along ∙ descend_pass ws ar t key e (ends_past sep key e) at parent more i found m b

  module _ (t : ℕ) (m : Memory) (parent : ℕ) where
    pub make_end : length key ≤ e → extended m parent ≡ containers t key (ends_past sep key at) m parent
    make_end l = containers_end t key e [] m parent l ∙ ap (λ (ends : List ℕ). containers t key ends m parent) (sym (last sep key at h e is l))

    pub make_more : (m' : Memory) → e < length key → m' ≡ make_item m t parent (take e key) (stored container_kind [] 0)
        → containers t key (ends_past sep key at) m parent ≡ containers t key (ends_past sep key e) m' (item_total m.words + 1)
    make_more m' l q =
        ap (λ (ends : List ℕ). containers t key ends m parent) (further sep key at h e is l).cons
        ∙ containers_more t key e (ends_past sep key e) m parent m' l q
