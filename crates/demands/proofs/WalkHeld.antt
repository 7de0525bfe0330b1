-- What stands under every key after an insert walked along the prefixes of its key: what it put under the last, containers under those
-- before that held nothing, and all else as it was.
use Prim.Native.Nat.{ℕ, suc, ◌+◌}
use mathlib.Core.Path.{◌≡◌, refl, sym, ap, ◌∙◌}
use mathlib.Core.Bool.{Bool, true, false, ◌&&◌, ◌||◌}
use mathlib.Core.List.{List, [], ◌∷◌, ◌++◌, map}
use native.Mathlib.Omega.{arith}
use borrow.Author.Tests.{ltb-true}
use lib.Dec.{eqb}
use lib.ListN.{length, set, take}
use lib.Seq.{take-length}
use Rattle.words.specs.Choice.{pick}
use Rattle.words.proofs.ChoiceLaws.{pick_with}
use Rattle.key_order.specs.Compare.{same_bytes}
use Rattle.key_order.specs.Prefix.{ends_from, prefixes}
use Rattle.model.specs.Table.{Content, Entry, entry_at}
use Rattle.model.specs.Walk.{find_key, is_there, entry, put_key, Walked, walk}
use Rattle.demands.specs.Last.{Held, or_else, among}
use Rattle.demands.proofs.HeldLaws.{held_in, hit, or_nothing, hit_same, held_snoc, there_holds, not_there, held-set}

-- the last of some keys
unfoldable last_key : List (List ℕ) → List ℕ
last_key [] = []
last_key (key ∷ []) = key
last_key (key ∷ next ∷ rest) = last_key (next ∷ rest)

module _ (t : ℕ) (content : Content) (u : ℕ) (k : List ℕ) where
  -- under key k of table u, which held h
  unfoldable stepped : List (List ℕ) → Held → Held
  stepped [] h = h
  stepped (key ∷ []) h = pick (hit t key u k) (Held.holds content) h
  stepped (prefix ∷ next ∷ rest) h = stepped (next ∷ rest) (pick (hit t prefix u k) (or_else h (Held.holds Content.container)) h)

  -- a walk that is not blocked leaves this
  unfoldable Left : List (List ℕ) → List Entry → Walked → Type 0
  Left keys items (Walked.walked after) = held_in after u k ≡ stepped keys (held_in items u k)
  Left keys items Walked.blocked = Unit

  put_new : (b : Bool) (h : Held) → (b ≡ true → h ≡ Held.nothing) → or_else h (pick b (Held.holds content) Held.nothing) ≡ pick b (Held.holds content) h
  unfolding pick or_else
  put_new true h none = rw (none refl) refl
  put_new false h none = or_nothing h

  put_left : (key : List ℕ) (items : List Entry) (above : ℕ) → held_in (put_key items t key content above) u k ≡ pick (hit t key u k) (Held.holds content) (held_in items u k)
  unfolding put_key pick
  put_left key items above = by (is_there items t key) refl
    where
      old : List Entry
      old = set items (find_key items t key) (entry t key content (entry_at items (find_key items t key)).above)

      by : (b : Bool) → is_there items t key ≡ b
          → held_in (pick b old (items ++ (entry t key content above ∷ []))) u k ≡ pick (hit t key u k) (Held.holds content) (held_in items u k)
      by true e = held-set items t key content (entry_at items (find_key items t key)).above u k (ltb-true _ _ e)
      by false e =
          held_snoc items (entry t key content above) u k
          ∙ put_new (hit t key u k) (held_in items u k) (λ q. let s = hit_same t key u k q in rw (sym s.0) (rw (sym s.1) (not_there items t key e)))

  -- a container that is there is passed; one that is missing is made
  pass_left : (prefix : List ℕ) (items : List Entry) → is_there items t prefix ≡ true
      → pick (hit t prefix u k) (or_else (held_in items u k) (Held.holds Content.container)) (held_in items u k) ≡ held_in items u k
  unfolding pick or_else
  pass_left prefix items e = by (hit t prefix u k) refl
    where
      by : (b : Bool) → hit t prefix u k ≡ b → pick b (or_else (held_in items u k) (Held.holds Content.container)) (held_in items u k) ≡ held_in items u k
      by true q = let s = hit_same t prefix u k q in let h : held_in items u k ≡ Held.holds (entry_at items (find_key items t prefix)).content = rw (sym s.0) (rw (sym s.1) (there_holds items t prefix e)) in rw h refl
      by false q = refl

  made_left : (prefix : List ℕ) (items : List Entry) (above : ℕ)
      → held_in (items ++ (entry t prefix Content.container above ∷ [])) u k ≡ pick (hit t prefix u k) (or_else (held_in items u k) (Held.holds Content.container)) (held_in items u k)
  unfolding pick
  made_left prefix items above = held_snoc items (entry t prefix Content.container above) u k ∙ by (hit t prefix u k)
    where
      by : (b : Bool) → or_else (held_in items u k) (pick b (Held.holds Content.container) Held.nothing) ≡ pick b (or_else (held_in items u k) (Held.holds Content.container)) (held_in items u k)
      by true = refl
      by false = or_nothing (held_in items u k)

  -- a walk over the rest from items that hold what the first step leaves
  left_on : (prefix next : List ℕ) (rest : List (List ℕ)) (items more : List Entry)
      → held_in more u k ≡ pick (hit t prefix u k) (or_else (held_in items u k) (Held.holds Content.container)) (held_in items u k)
      → (w : Walked) → Left (next ∷ rest) more w → Left (prefix ∷ next ∷ rest) items w
  unfolding Left stepped
  left_on prefix next rest items more is (Walked.walked after) left = left ∙ ap (stepped (next ∷ rest)) is
  left_on prefix next rest items more is Walked.blocked left = tt

  walk_left : (keys : List (List ℕ)) (items : List Entry) (above : ℕ) → Left keys items (walk t content keys items above)
  unfolding walk stepped Left
  walk_left [] items above = refl
  walk_left (key ∷ []) items above = put_left key items above
  walk_left (prefix ∷ next ∷ rest) items above =
      pick_with (Left (prefix ∷ next ∷ rest) items) (is_there items t prefix) _ _
      (λ there. pick_with (Left (prefix ∷ next ∷ rest) items) _ _ _
      (λ _. left_on prefix next rest items items (sym (pass_left prefix items there)) (walk t content (next ∷ rest) items (find_key items t prefix)) (walk_left (next ∷ rest) items (find_key items t prefix)))
      (λ _. tt))
      (λ _. let more = items ++ (entry t prefix Content.container above ∷ []) in
      left_on prefix next rest items more (made_left prefix items above) (walk t content (next ∷ rest) more (length items)) (walk_left (next ∷ rest) more (length items)))

  -- ---- in one step

  abbrev container : Held
  container = Held.holds Content.container

  -- under the last key what was put; under another that was passed what it held, or a container
  abbrev whole : List (List ℕ) → Held → Held
  whole keys h = or_else (pick (hit t (last_key keys) u k) (Held.holds content) Held.nothing) (pick (eqb t u && among keys k) (or_else h container) h)

  one_is : (b s : Bool) (h : Held) → pick (b && s) (Held.holds content) h ≡ or_else (pick (b && s) (Held.holds content) Held.nothing) (pick (b && (s || false)) (or_else h container) h)
  unfolding pick or_else
  one_is true true h = refl
  one_is true false h = refl
  one_is false s h = refl

  twice : (h : Held) → or_else (or_else h container) container ≡ or_else h container
  unfolding or_else
  twice Held.nothing = refl
  twice (Held.holds c) = refl

  more_is : (b p r : Bool) (h : Held)
      → pick (b && r) (or_else (pick (b && p) (or_else h container) h) container) (pick (b && p) (or_else h container) h) ≡ pick (b && (p || r)) (or_else h container) h
  unfolding pick
  more_is true true true h = twice h
  more_is true true false h = refl
  more_is true false true h = refl
  more_is true false false h = refl
  more_is false p r h = refl

  stepped_is : (key : List ℕ) (keys : List (List ℕ)) (h : Held) → stepped (key ∷ keys) h ≡ whole (key ∷ keys) h
  unfolding stepped last_key among
  stepped_is key [] h = one_is (eqb t u) (same_bytes key k) h
  stepped_is key (next ∷ rest) h =
      stepped_is next rest (pick (hit t key u k) (or_else h container) h)
      ∙ ap (or_else (pick (hit t (last_key (next ∷ rest)) u k) (Held.holds content) Held.nothing)) (more_is (eqb t u) (same_bytes key k) (among (next ∷ rest) k) h)

-- ---- the prefixes of a key: the last is the key itself

some_end : (sep at : ℕ) (rest : List ℕ) → (e : ℕ) × (ends : List ℕ) × (ends_from sep at rest ≡ e ∷ ends)
unfolding ends_from pick
some_end sep at [] = (at, [], refl)
some_end sep at (x ∷ []) = (suc at, [], refl)
some_end sep at (x ∷ y ∷ rest) = by (eqb x sep) (some_end sep (suc at) (y ∷ rest))
  where
    by : (b : Bool) → (e : ℕ) × (ends : List ℕ) × (ends_from sep (suc at) (y ∷ rest) ≡ e ∷ ends)
        → (e : ℕ) × (ends : List ℕ) × (pick b (suc at ∷ ends_from sep (suc at) (y ∷ rest)) (ends_from sep (suc at) (y ∷ rest)) ≡ e ∷ ends)
    by true r = (suc at, ends_from sep (suc at) (y ∷ rest), refl)
    by false r = r

unfoldable last_end : List ℕ → ℕ
last_end [] = 0
last_end (e ∷ []) = e
last_end (e ∷ next ∷ ends) = last_end (next ∷ ends)

end_more : (x : ℕ) (ends : List ℕ) → (e : ℕ) × (more : List ℕ) × (ends ≡ e ∷ more) → last_end (x ∷ ends) ≡ last_end ends
unfolding last_end
end_more x ends some = rw some.2 refl

last_end_lem : (sep at : ℕ) (rest : List ℕ) → last_end (ends_from sep at rest) ≡ at + length rest
unfolding ends_from last_end pick
last_end_lem sep at [] = omega arith
last_end_lem sep at (x ∷ []) = omega arith
last_end_lem sep at (x ∷ y ∷ rest) = by (eqb x sep) (last_end_lem sep (suc at) (y ∷ rest))
  where
    by : (b : Bool) → last_end (ends_from sep (suc at) (y ∷ rest)) ≡ suc at + length (y ∷ rest)
        → last_end (pick b (suc at ∷ ends_from sep (suc at) (y ∷ rest)) (ends_from sep (suc at) (y ∷ rest))) ≡ at + length (x ∷ y ∷ rest)
    by true r = end_more (suc at) (ends_from sep (suc at) (y ∷ rest)) (some_end sep (suc at) (y ∷ rest)) ∙ r ∙ omega arith
    by false r = r ∙ omega arith

last-map : (f : ℕ → List ℕ) (e : ℕ) (ends : List ℕ) → last_key (map f (e ∷ ends)) ≡ f (last_end (e ∷ ends))
unfolding last_key last_end
last-map f e [] = refl
last-map f e (next ∷ ends) = last-map f next ends

-- ---- an insert under a key, and what it leaves under every key of every table

pub walk-held : (t : ℕ) (content : Content) (sep : ℕ) (key : List ℕ) (items : List Entry) (above : ℕ) (after : List Entry)
    → walk t content (prefixes sep key) items above ≡ Walked.walked after → (u : ℕ) (k : List ℕ)
    → held_in after u k
    ≡ or_else (pick (hit t key u k) (Held.holds content) Held.nothing)
    (pick (eqb t u && among (prefixes sep key) k) (or_else (held_in items u k) (Held.holds Content.container)) (held_in items u k))
unfolding prefixes Left
walk-held t content sep key items above after is u k =
    let f : ℕ → List ℕ = λ (n : ℕ). take n key in
    let some = some_end sep 0 key in
    let left : held_in after u k ≡ stepped t content u k (prefixes sep key) (held_in items u k) = rw is at (walk_left t content u k (prefixes sep key) items above) in
    let last : last_key (prefixes sep key) ≡ key =
    ap (λ (l : List ℕ). last_key (map f l)) some.2 ∙ last-map f some.0 some.1 ∙ ap (λ (l : List ℕ). f (last_end l)) (sym some.2) ∙ ap f (last_end_lem sep 0 key ∙ (let z : 0 + length key ≡ length key = omega arith in z)) ∙ take-length key in
    let step : stepped t content u k (prefixes sep key) (held_in items u k) ≡ whole t content u k (prefixes sep key) (held_in items u k) =
    ap (λ (l : List ℕ). stepped t content u k (map f l) (held_in items u k)) some.2
    ∙ stepped_is t content u k (f some.0) (map f some.1) (held_in items u k)
    ∙ ap (λ (l : List ℕ). whole t content u k (map f l) (held_in items u k)) (sym some.2) in
    left ∙ step
    ∙ ap (λ (name : List ℕ). or_else (pick (hit t name u k) (Held.holds content) Held.nothing) (pick (eqb t u && among (prefixes sep key) k) (or_else (held_in items u k) (Held.holds Content.container)) (held_in items u k))) last
