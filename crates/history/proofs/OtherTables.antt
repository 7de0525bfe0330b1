-- Calls on one table change no item of another: what an insert into table t leaves of the other tables' items, on the model.
use Prim.Native.Nat.{ℕ, suc, ◌≤◌, ◌<◌}
use mathlib.Core.Path.{◌≡◌, refl, sym, ap, ◌∙◌}
use mathlib.Core.Bool.{Bool, true, false, ◌&&◌}
use mathlib.Core.List.{List, [], ◌∷◌, ◌++◌}
use native.Mathlib.Omega.{arith}
use lib.ListN.{length, set, length-set, length-append, get_or-append}
use lib.Seq.{get_or-set_other}
use lib.Dec.{eqb}
use borrow.Author.Tests.{eqb-true, ltb-true}
use Rattle.words.specs.Choice.{pick}
use Rattle.words.proofs.ChoiceLaws.{both, pick_with}
use Rattle.key_order.specs.Compare.{same_bytes}
use Rattle.model.specs.Table.{Content, Entry, no_entry, entry_at}
use Rattle.model.specs.Walk.{find_key, entry, put_key, Walked, walk}

-- what is found is an item of the table
find_by : (t : ℕ) (key : List ℕ) (e : Entry) (items : List Entry) (b : Bool) → (eqb e.table t && same_bytes e.key key) ≡ b
    → (find_key items t key < length items → (entry_at items (find_key items t key)).table ≡ t)
    → pick b 0 (suc (find_key items t key)) < suc (length items) → (entry_at (e ∷ items) (pick b 0 (suc (find_key items t key)))).table ≡ t
unfolding pick entry_at
find_by t key e items true is rest h = eqb-true e.table t (both (eqb e.table t) (same_bytes e.key key) is).0
find_by t key e items false is rest h = rest (omega arith)

find_table : (t : ℕ) (key : List ℕ) (items : List Entry) → find_key items t key < length items → (entry_at items (find_key items t key)).table ≡ t
unfolding find_key
find_table t key [] h = absurd (omega arith)
find_table t key (e ∷ items) h = find_by t key e items (eqb e.table t && same_bytes e.key key) refl (find_table t key items) h

-- the items of other tables stand where they stood, as they were
unfoldable pub Keeps : ℕ → List Entry → Walked → Type 0
Keeps t items (Walked.walked after) =
    (length items ≤ length after) × ((i : ℕ) → i < length items → ((entry_at items i).table ≡ t → ⊥) → entry_at after i ≡ entry_at items i)
Keeps t items Walked.blocked = Unit

added_keeps : (t : ℕ) (items : List Entry) (x : Entry) → Keeps t items (Walked.walked (items ++ (x ∷ [])))
unfolding Keeps entry_at
added_keeps t items x = (omega (arith, length-append items (x ∷ [])), λ i h other. get_or-append items (x ∷ []) no_entry i h)

put_keeps : (t : ℕ) (key : List ℕ) (content : Content) (items : List Entry) (above : ℕ) → Keeps t items (Walked.walked (put_key items t key content above))
unfolding put_key Keeps entry_at
put_keeps t key content items above =
    pick_with (λ (after : List Entry). Keeps t items (Walked.walked after)) _ _ _ (λ there. replaced (ltb-true _ _ there)) (λ _. added_keeps t items _)
  where
    replaced : find_key items t key < length items
        → Keeps t items (Walked.walked (set items (find_key items t key) (entry t key content (entry_at items (find_key items t key)).above)))
    replaced here =
        let f = find_key items t key in
        let x = entry t key content (entry_at items f).above in
        (omega (arith, length-set items f x), λ i h other. get_or-set_other items f i x no_entry (λ e. other (ap (λ (k : ℕ). (entry_at items k).table) e ∙ find_table t key items here)))

after_more : (t : ℕ) (items : List Entry) (x : Entry) (r : Walked) → Keeps t (items ++ (x ∷ [])) r → Keeps t items r
unfolding Keeps
after_more t items x Walked.blocked k = tt
after_more t items x (Walked.walked after) k =
    let first = added_keeps t items x in (
      omega (arith, length-append items (x ∷ []), k.0),
      λ i h other.
          k.1 i (omega (arith, length-append items (x ∷ []))) (λ e. other (ap (λ (y : Entry). y.table) (sym (first.1 i h other)) ∙ e)) ∙ first.1 i h other,
    )

-- an insert into table t, along its prefixes
pub walk_keeps : (t : ℕ) (content : Content) (prefixes : List (List ℕ)) (items : List Entry) (above : ℕ) → Keeps t items (walk t content prefixes items above)
unfolding walk Keeps
walk_keeps t content [] items above = (omega arith, λ i h other. refl)
walk_keeps t content (key ∷ []) items above = put_keeps t key content items above
walk_keeps t content (prefix ∷ next ∷ rest) items above =
    pick_with (Keeps t items) _ _ _
    (λ _. pick_with (Keeps t items) _ _ _ (λ _. walk_keeps t content (next ∷ rest) items (find_key items t prefix)) (λ _. tt))
    (λ _. let made = entry t prefix Content.container above in
    after_more t items made (walk t content (next ∷ rest) (items ++ (made ∷ [])) (length items))
    (walk_keeps t content (next ∷ rest) (items ++ (made ∷ [])) (length items)))
