-- The model's walk along the prefixes of a key, a prefix at a time; and all of it where every prefix past an index is missing.
use Prim.Native.Nat.{ℕ, zero, suc, ◌+◌, ◌≤◌, ◌<◌}
use native.Mathlib.Nat.{not-suc-le-zero}
use native.Mathlib.Numerals.{add-one}
use native.Mathlib.Omega.{arith}
use native.Mathlib.Decide.{dec_lt}
use mathlib.Core.Path.{◌≡◌, refl, sym, ap, ◌∙◌}
use mathlib.Core.Bool.{true, false}
use mathlib.Core.List.{List, [], ◌∷◌, ◌++◌, map, append_assoc}
use borrow.Author.Tests.{le-ltb}
use lib.ListN.{length, take, length-append}
use lib.Seq.{length-take-le, take-length}
use Rattle.words.specs.Choice.{pick}
use Rattle.words.proofs.ChoiceLaws.{pick_true, pick-false}
use Rattle.key_order.specs.Prefix.{prefixes, ends_past, next_end}
use Rattle.key_order.proofs.PrefixLaws.{past_last, next_within, next_rises}
use Rattle.model.specs.Table.{Content, Entry, entry_at, is_container}
use Rattle.model.specs.Walk.{find_key, is_there, entry, put_key, Walked, walk, key_room}
use Rattle.build_values.specs.Walk.{sum}
use Rattle.build_values.proofs.WalkLaws.{further, last}
use Rattle.history.proofs.ModelSearch.{hits_not, find_snoc}

-- the entries that the missing ends of a key become: a container for each but the last; n is the index of the first
unfoldable pub new_entries : ℕ → List ℕ → Content → List ℕ → ℕ → ℕ → List Entry
new_entries t k c [] n above = []
new_entries t k c (e ∷ []) n above = entry t (take e k) c above ∷ []
new_entries t k c (e ∷ f ∷ ends) n above = entry t (take e k) Content.container above ∷ new_entries t k c (f ∷ ends) (suc n) n

pub new_length : (t : ℕ) (k : List ℕ) (c : Content) (ends : List ℕ) (n above : ℕ) → length (new_entries t k c ends n above) ≡ length ends
unfolding new_entries
new_length t k c [] n above = refl
new_length t k c (e ∷ []) n above = refl
new_length t k c (e ∷ f ∷ ends) n above = ap suc (new_length t k c (f ∷ ends) (suc n) n)

pub new_more : (t : ℕ) (k : List ℕ) (c : Content) (e : ℕ) (ends : List ℕ) (n above : ℕ) → 0 < length ends
    → new_entries t k c (e ∷ ends) n above ≡ entry t (take e k) Content.container above ∷ new_entries t k c ends (suc n) n
unfolding new_entries
new_more t k c e [] n above h = absurd (not-suc-le-zero h)
new_more t k c e (f ∷ ends) n above h = refl

pub new_one : (t : ℕ) (k : List ℕ) (c : Content) (e n above : ℕ) → new_entries t k c (e ∷ []) n above ≡ entry t (take e k) c above ∷ []
unfolding new_entries
new_one t k c e n above = refl

pub put_missing : (t : ℕ) (c : Content) (k : List ℕ) (items : List Entry) (above : ℕ) → find_key items t k ≡ length items → put_key items t k c above ≡ items ++ (entry t k c above ∷ [])
unfolding put_key
put_missing t c k items above e = pick-false _ _ (le-ltb (find_key items t k) (length items) (omega arith))

walk_by : (t : ℕ) (c : Content) (k p : List ℕ) (ends : List ℕ) (items : List Entry) (above : ℕ) → 0 < length ends
    → walk t c (p ∷ map (λ (n : ℕ). take n k) ends) items above
    ≡ pick (is_there items t p)
    (pick (is_container (entry_at items (find_key items t p)).content) (walk t c (map (λ (n : ℕ). take n k) ends) items (find_key items t p)) Walked.blocked)
    (walk t c (map (λ (n : ℕ). take n k) ends) (items ++ (entry t p Content.container above ∷ [])) (length items))
unfolding walk
walk_by t c k p [] items above h = absurd (not-suc-le-zero h)
walk_by t c k p (e ∷ ends) items above h = refl

module _ (sep : ℕ) (k : List ℕ) where
  -- the prefixes past an index
  abbrev pub along : ℕ → List (List ℕ)
  along from = map (λ (n : ℕ). take n k) (ends_past sep k from)

  pub prefixes_is : prefixes sep k ≡ along 0
  unfolding prefixes ends_past
  prefixes_is = refl

  pub ends_some : (from : ℕ) → from ≤ length k → 0 < length (ends_past sep k from)
  ends_some from h = by_end (dec_lt (next_end sep k from) (length k))
    where
      by_end : Dec (next_end sep k from < length k) → 0 < length (ends_past sep k from)
      by_end (yes u) = let n = (further sep k from h (next_end sep k from) refl u).number in omega arith
      by_end (no u) = let n = ap length (last sep k from h (next_end sep k from) refl (omega arith)) in omega arith

  module _ (from : ℕ) (h : from ≤ length k) where
    pub ends_last : length k ≤ next_end sep k from → ends_past sep k from ≡ length k ∷ []
    ends_last u = past_last sep k from h (omega (arith, (next_within sep k from h).1))

    module _ (t : ℕ) (c : Content) (items : List Entry) (above : ℕ) where
      pub walk-last : length k ≤ next_end sep k from → walk t c (along from) items above ≡ Walked.walked (put_key items t k c above)
      unfolding walk
      walk-last u =
          ap (λ (l : List ℕ). walk t c (map (λ (n : ℕ). take n k) l) items above) (ends_last u)
          ∙ ap (λ (key : List ℕ). Walked.walked (put_key items t key c above)) (take-length k)

      module _ (e : ℕ) (is : e ≡ next_end sep k from) (u : e < length k) where
        walk_on : walk t c (along from) items above
            ≡ pick (is_there items t (take e k))
            (pick (is_container (entry_at items (find_key items t (take e k))).content) (walk t c (along e) items (find_key items t (take e k))) Walked.blocked)
            (walk t c (along e) (items ++ (entry t (take e k) Content.container above ∷ [])) (length items))
        walk_on =
            ap (λ (l : List ℕ). walk t c (map (λ (n : ℕ). take n k) l) items above) (further sep k from h e is u).cons
            ∙ walk_by t c k (take e k) (ends_past sep k e) items above (ends_some e (omega arith))

        pub walk_pass : is_there items t (take e k) ≡ true → is_container (entry_at items (find_key items t (take e k))).content ≡ true
            → walk t c (along from) items above ≡ walk t c (along e) items (find_key items t (take e k))
        walk_pass a b = walk_on ∙ pick_true _ _ a ∙ pick_true _ _ b

        pub walk_blocks : is_there items t (take e k) ≡ true → is_container (entry_at items (find_key items t (take e k))).content ≡ false
            → walk t c (along from) items above ≡ Walked.blocked
        walk_blocks a b = walk_on ∙ pick_true _ _ a ∙ pick-false _ _ b

        pub walk-makes : is_there items t (take e k) ≡ false
            → walk t c (along from) items above ≡ walk t c (along e) (items ++ (entry t (take e k) Content.container above ∷ [])) (length items)
        walk-makes a = walk_on ∙ pick-false _ _ a

  -- ---- every prefix from the next end on is missing
  pub record Gone (t : ℕ) (items : List Entry) (from : ℕ) : Type 0 where
    pub none : (e : ℕ) → next_end sep k from ≤ e → e ≤ length k → find_key items t (take e k) ≡ length items

  not_there : (t : ℕ) (items : List Entry) (key : List ℕ) → find_key items t key ≡ length items → is_there items t key ≡ false
  not_there t items key e = le-ltb (find_key items t key) (length items) (omega arith)

  gone_on : (t : ℕ) (items : List Entry) (from : ℕ) → from ≤ length k → (e : ℕ) → e ≡ next_end sep k from → e < length k → (above : ℕ) → Gone t items from
      → Gone t (items ++ (entry t (take e k) Content.container above ∷ [])) e
  gone_on t items from h e is u above gone =
      record {
        none = λ x l top.
            let up = next_rises sep k e (omega arith) u in
            find_snoc t (take x k) items (entry t (take e k) Content.container above) (gone.none x (omega arith) top)
            (hits_not t (take x k) (entry t (take e k) Content.container above)
            (λ a b. let z : length (take e k) ≡ length (take x k) = ap length b in
            omega (arith, length-take-le e k (omega arith), length-take-le x k top)));
      }

  module _ (t : ℕ) (c : Content) where
    abbrev Ends : ℕ → List Entry → ℕ → Type 0
    Ends from items above = walk t c (along from) items above ≡ Walked.walked (items ++ new_entries t k c (ends_past sep k from) (length items) above)

    new_step : (from : ℕ) → from ≤ length k → (items : List Entry) (above : ℕ) → Gone t items from
        → ((f : ℕ) → from < f → f ≤ length k → (l : List Entry) (a : ℕ) → Gone t l f → Ends f l a) → Ends from items above
    new_step from h items above gone ih = by_end (dec_lt (next_end sep k from) (length k))
      where
        by_end : Dec (next_end sep k from < length k) → Ends from items above
        by_end (yes u) =
            let e = next_end sep k from in
            let box = entry t (take e k) Content.container above in
            let f = further sep k from h e refl u in
            let size : length (items ++ (box ∷ [])) ≡ suc (length items) = length-append items (box ∷ []) ∙ add-one (length items) in
            walk-makes from h t c items above e refl u (not_there t items (take e k) (gone.none e (omega arith) (omega arith)))
            ∙ ih e f.rises (omega arith) (items ++ (box ∷ [])) (length items) (gone_on t items from h e refl u above gone)
            ∙ ap Walked.walked (append_assoc items (box ∷ []) (new_entries t k c (ends_past sep k e) (length (items ++ (box ∷ []))) (length items)))
            ∙ ap (λ (n : ℕ). Walked.walked (items ++ (box ∷ new_entries t k c (ends_past sep k e) n (length items)))) size
            ∙ ap (λ (l : List Entry). Walked.walked (items ++ l)) (sym (new_more t k c e (ends_past sep k e) (length items) above (ends_some e (omega arith))))
            ∙ ap (λ (l : List ℕ). Walked.walked (items ++ new_entries t k c l (length items) above)) (sym f.cons)
        by_end (no u) =
            let b = (next_within sep k from h).1 in
            let none : find_key items t k ≡ length items = ap (find_key items t) (sym (take-length k)) ∙ gone.none (length k) (omega arith) (omega arith) in
            walk-last from h t c items above (omega arith)
            ∙ ap Walked.walked (put_missing t c k items above none)
            ∙ ap (λ (key : List ℕ). Walked.walked (items ++ (entry t key c above ∷ []))) (sym (take-length k))
            ∙ ap (λ (l : List Entry). Walked.walked (items ++ l)) (sym (new_one t k c (length k) (length items) above))
            ∙ ap (λ (l : List ℕ). Walked.walked (items ++ new_entries t k c l (length items) above)) (sym (ends_last from h (omega arith)))

    new_fuel : (fuel from : ℕ) → length k ≤ from + fuel → from ≤ length k → (items : List Entry) (above : ℕ) → Gone t items from → Ends from items above
    new_fuel zero from b h items above gone = new_step from h items above gone (λ f l v i a g. absurd (omega arith))
    new_fuel (suc fuel) from b h items above gone = new_step from h items above gone (λ f l v i a g. new_fuel fuel f (omega arith) v i a g)

    pub walk_new : (from : ℕ) → from ≤ length k → (items : List Entry) (above : ℕ) → Gone t items from → Ends from items above
    walk_new from h items above gone = new_fuel (length k) from (omega arith) h items above gone

    -- ---- what the new entries cost
    room_step : (from : ℕ) → from ≤ length k → (n above : ℕ)
        → ((f : ℕ) → from < f → f ≤ length k → (m a : ℕ) → key_room (new_entries t k c (ends_past sep k f) m a) ≡ sum (ends_past sep k f))
        → key_room (new_entries t k c (ends_past sep k from) n above) ≡ sum (ends_past sep k from)
    unfolding key_room sum
    room_step from h n above ih = by_end (dec_lt (next_end sep k from) (length k))
      where
        by_end : Dec (next_end sep k from < length k) → key_room (new_entries t k c (ends_past sep k from) n above) ≡ sum (ends_past sep k from)
        by_end (yes u) =
            let e = next_end sep k from in
            let f = further sep k from h e refl u in
            ap (λ (l : List ℕ). key_room (new_entries t k c l n above)) f.cons
            ∙ ap key_room (new_more t k c e (ends_past sep k e) n above (ends_some e (omega arith)))
            ∙ ap (λ (x : ℕ). x + key_room (new_entries t k c (ends_past sep k e) (suc n) n)) (length-take-le e k (omega arith))
            ∙ ap (λ (x : ℕ). e + x) (ih e f.rises (omega arith) (suc n) n)
            ∙ sym f.total
        by_end (no u) =
            ap (λ (l : List ℕ). key_room (new_entries t k c l n above)) (ends_last from h (omega arith))
            ∙ ap key_room (new_one t k c (length k) n above)
            ∙ ap (λ (x : List ℕ). length x + 0) (take-length k)
            ∙ sym (ap sum (ends_last from h (omega arith)))

    room_fuel : (fuel from : ℕ) → length k ≤ from + fuel → from ≤ length k → (n above : ℕ) → key_room (new_entries t k c (ends_past sep k from) n above) ≡ sum (ends_past sep k from)
    room_fuel zero from b h n above = room_step from h n above (λ f l v m a. absurd (omega arith))
    room_fuel (suc fuel) from b h n above = room_step from h n above (λ f l v m a. room_fuel fuel f (omega arith) v m a)

    pub new_room : (from : ℕ) → from ≤ length k → (n above : ℕ) → key_room (new_entries t k c (ends_past sep k from) n above) ≡ sum (ends_past sep k from)
    new_room from h n above = room_fuel (length k) from (omega arith) h n above
