-- 8 comes with the offset at which the given key is bad.
use Rattle.std.specs.Prelude.{Err}
use Rattle.model.specs.Inserted.{Inserted}
use Prim.Native.Nat.{ℕ, suc}
use mathlib.Core.Path.{◌≡◌, sym, ap, subst}
use mathlib.Core.List.{List}
use mathlib.Core.Bool.{Bool, true, false}
use native.Mathlib.Omega.{arith}
use lib.Dec.{ltb}
use lib.ListN.{length}
use borrow.Author.Tests.{eqb-false, ne_eqb}
use Rattle.words.specs.Choice.{pick}
use Rattle.words.proofs.ChoiceLaws.{pick_with}
use Rattle.key_order.specs.Prefix.{prefixes}
use Rattle.text.specs.Bad.{BadText}
use Rattle.text.proofs.BadLaws.{bad_text, bad_no_utf8}
use Rattle.layout.specs.Limits.{deepest}
use Rattle.layout.specs.Item.{no_item}
use Rattle.layout.specs.Refusal.{number}
use Rattle.layout.specs.declared.refusal.Refusal.{Refusal}
use Rattle.layout.specs.declared.refusal.Refusal.TheVariants.{KeyNotUtf8, KeyTooLong, NotContainer, TooManyItems, ArenaFull, TableUnknown, TableInItself, NestedTooDeep}
use Rattle.model.specs.Table.{Content, Entry}
use Rattle.model.specs.Walk.{Walked, walk}
use Rattle.model.specs.Builder.{Builder, Reply, refused, standing_at, free_standing, height, news, counted, at_walked, put, keyed, insert_value, settled, insert_table}
use Rattle.model.specs.Bad.{EightAt}

module _ (at : ℕ) where
  -- an answer that is not 8
  record Other (r : Reply Inserted) : Type 0 where
    no : r.answer ≡ Err (KeyNotUtf8 at) → ⊥

  refused_other : (why : Refusal) (m : Builder) → (number why ≡ 8 → ⊥) → Other (refused why m)
  refused_other why m n = record { no = λ e. let is : why ≡ KeyNotUtf8 at = cc in n (ap number is) }

  pick_other : (b : Bool) (r s : Reply Inserted) → Other r → Other s → Other (pick b r s)
  pick_other b r s x y = pick_with Other b r s (λ _. x) (λ _. y)

  news_other : (items : List Entry) (t : ℕ) (key : List ℕ) → news items t key ≡ Err (KeyNotUtf8 at) → ⊥
  unfolding news
  news_other items t key =
      let P : Inserted → Type 0 = λ i. i ≡ Err (KeyNotUtf8 at) → ⊥ in
      pick_with P _ _ _ (λ _ e. let z : ◌≡◌ {A = ℕ} 0 1 = cc in omega arith) (λ _ e. let z : ◌≡◌ {A = ℕ} 0 1 = cc in omega arith)

  walked_other : (w : Walked) (deep : Bool) (m : Builder) (t : ℕ) (key : List ℕ) (size : ℕ) → Other (at_walked w deep m t key size)
  unfolding at_walked counted
  walked_other Walked.blocked deep m t key size = refused_other NotContainer m (λ e. omega arith)
  walked_other (Walked.walked after) deep m t key size =
      pick_other _ _ _ (refused_other NestedTooDeep m (λ e. omega arith))
      (pick_other _ _ _ (refused_other TooManyItems m (λ e. omega arith))
      (pick_other _ _ _ (refused_other ArenaFull m (λ e. omega arith)) (record { no = news_other m.items t key })))

  put_other : (m : Builder) (t : ℕ) (key : List ℕ) (content : Content) (size : ℕ) (deep : Bool) → Other (put m t key content size deep)
  unfolding put
  put_other m t key content size deep = walked_other (walk t content (prefixes (standing_at m t).separator key) m.items no_item) deep m t key size

  settled_other : (guest : ℕ) (r : Reply Inserted) → Other r → Other (settled guest r)
  unfolding settled
  settled_other guest r x = record { no = x.no }

  module _ (m : Builder) (key : List ℕ) where
    keyed_eight : (next : Reply Inserted) → Other next → (keyed m key next).answer ≡ Err (KeyNotUtf8 at) → BadText key at
    unfolding keyed
    keyed_eight next x =
        let P : Reply Inserted → Type 0 = λ r. r.answer ≡ Err (KeyNotUtf8 at) → BadText key at in
        pick_with P _ _ _ (λ _ e. absurd ((pick_other _ _ _ (refused_other KeyTooLong m (λ f. omega arith)) x).no e)) (λ bad e. subst (BadText key) (cc) (bad_text key bad))

    eight_keyed : (next : Reply Inserted) → BadText key at → (keyed m key next).answer ≡ Err (KeyNotUtf8 at)
    unfolding keyed pick
    eight_keyed next bad = rw (bad_no_utf8 key bad) (ap (λ (n : ℕ). Err (KeyNotUtf8 n)) (sym bad.is))

    value_bad : (t : ℕ) (value : List ℕ) → (insert_value m t key value).answer ≡ Err (KeyNotUtf8 at) → (free_standing m t ≡ true) × BadText key at
    unfolding insert_value
    value_bad t value =
        let P : Reply Inserted → Type 0 = λ r. r.answer ≡ Err (KeyNotUtf8 at) → (free_standing m t ≡ true) × BadText key at in
        pick_with P _ _ _ (λ free e. (free, keyed_eight _ (put_other m t key (Content.bytes value) (length value) false) e)) (λ _ e. absurd ((refused_other TableUnknown m (λ f. omega arith)).no e))

    table_bad : (t guest : ℕ) → (insert_table m t key guest).answer ≡ Err (KeyNotUtf8 at)
        → (free_standing m t ≡ true) × (free_standing m guest ≡ true) × (t ≡ guest → ⊥) × BadText key at
    unfolding insert_table
    table_bad t guest =
        let P : Reply Inserted → Type 0 = λ r. r.answer ≡ Err (KeyNotUtf8 at) → (free_standing m t ≡ true) × (free_standing m guest ≡ true) × (t ≡ guest → ⊥) × BadText key at in
        pick_with P _ _ _
        (λ free. pick_with P _ _ _
        (λ loose. pick_with P _ _ _ (λ _ e. absurd ((refused_other TableInItself m (λ f. omega arith)).no e))
        (λ two e. (free, loose, eqb-false t guest two, keyed_eight _ (settled_other guest _ (put_other m t key (Content.nested guest) 0 (ltb deepest (suc (height m guest))))) e)))
        (λ _ e. absurd ((refused_other TableUnknown m (λ f. omega arith)).no e)))
        (λ _ e. absurd ((refused_other TableUnknown m (λ f. omega arith)).no e))

    bad_value : (t : ℕ) (value : List ℕ) → ((free_standing m t ≡ true) × BadText key at) → (insert_value m t key value).answer ≡ Err (KeyNotUtf8 at)
    unfolding insert_value pick
    bad_value t value (free, bad) = rw free (eight_keyed _ bad)

    bad_table : (t guest : ℕ) → ((free_standing m t ≡ true) × (free_standing m guest ≡ true) × (t ≡ guest → ⊥) × BadText key at)
        → (insert_table m t key guest).answer ≡ Err (KeyNotUtf8 at)
    unfolding insert_table pick
    bad_table t guest (free, loose, two, bad) = rw (free, loose, ne_eqb t guest two) (eight_keyed _ bad)

pub eight_at : EightAt
eight_at m t key at = (λ value. (value_bad at m key t value, bad_value at m key t value), λ guest. (table_bad at m key t guest, bad_table at m key t guest))
