-- What each call leaves under every key, on the model: an accepted insert what `walk-held` says; and every table keeps its separator.
use Rattle.std.specs.Prelude.{Ok, Err, Some, None}
use Rattle.model.specs.Inserted.{Inserted}
use Prim.Native.Nat.{ℕ, zero, suc}
use mathlib.Core.Path.{◌≡◌, refl, sym, ap, ◌∙◌}
use mathlib.Core.Bool.{Bool, true, false, ◌&&◌}
use mathlib.Core.List.{List, [], ◌∷◌}
use lib.Dec.{eqb, ltb}
use lib.ListN.{length, get_or, set}
use Rattle.words.specs.Choice.{pick}
use Rattle.words.proofs.ChoiceLaws.{pick_with}
use Rattle.key_order.specs.Prefix.{prefixes}
use Rattle.layout.specs.declared.refusal.Refusal.{Refusal}
use Rattle.layout.specs.declared.refusal.Refusal.TheVariants.{KeyNotUtf8, KeyTooLong, NotContainer, TooManyItems, ArenaFull, TableUnknown, TableInItself, NestedTooDeep}
use Rattle.layout.specs.Refusal.{number}
use Rattle.layout.specs.Item.{no_item}
use Rattle.model.specs.Table.{Content, Entry}
use Rattle.model.specs.Walk.{Walked, walk}
use Rattle.layout.specs.Limits.{deepest}
use Rattle.model.specs.Builder.{Builder, Standing, no_standing, standing_at, Reply, result, refused, news, counted, at_walked, put, keyed, insert_value, place, when_accepted, settled, insert_table, height}
use Rattle.build_values.specs.Answer.{inserted_number}
use Rattle.demands.specs.Last.{Held, or_else, among}
use Rattle.demands.proofs.HeldLaws.{held_in, hit}
use Rattle.demands.proofs.WalkHeld.{walk-held}

-- what stands under key k of table u after an accepted insert of some content under a key of table t
abbrev pub put_held : Builder → ℕ → List ℕ → Content → ℕ → List ℕ → Held
put_held m t key content u k =
    or_else (pick (hit t key u k) (Held.holds content) Held.nothing)
    (pick (eqb t u && among (prefixes (standing_at m t).separator key) k) (or_else (held_in m.items u k) (Held.holds Content.container)) (held_in m.items u k))

news-accepted : (items : List Entry) (t : ℕ) (key : List ℕ) → eqb (inserted_number (news items t key)) 0 ≡ true
unfolding news inserted_number
news-accepted items t key = pick_with (λ (a : Inserted). eqb (inserted_number a) 0 ≡ true) _ _ _ (λ _. refl) (λ _. refl)

module _ (m : Builder) (t : ℕ) (key : List ℕ) (content : Content) where
  pub record Took (r : Reply Inserted) : Type 0 where
    pub took : eqb (inserted_number r.answer) 0 ≡ true → (u : ℕ) (k : List ℕ) → held_in r.after.items u k ≡ put_held m t key content u k
    pub kept : eqb (inserted_number r.answer) 0 ≡ false → r.after ≡ m
    pub seps : (u : ℕ) → (standing_at r.after u).separator ≡ (standing_at m u).separator

  refused_took : (why : Refusal) → eqb (number why) 0 ≡ false → Took (refused why m)
  unfolding inserted_number
  refused_took why e = record { took = λ n u k. cc; kept = λ n. refl; seps = λ u. refl }

  pick_took : (b : Bool) (r s : Reply Inserted) → Took r → Took s → Took (pick b r s)
  pick_took b r s x y = pick_with Took b r s (λ _. x) (λ _. y)

  counted_took : (size : ℕ) (after : List Entry) → walk t content (prefixes (standing_at m t).separator key) m.items no_item ≡ Walked.walked after
      → Took (counted m t key size after)
  unfolding counted standing_at
  counted_took size after is =
      pick_took _ _ _ (refused_took TooManyItems refl)
      (pick_took _ _ _ (refused_took ArenaFull refl)
      (record {
        took = λ n u k. walk-held t content (standing_at m t).separator key m.items no_item after is u k;
        kept = λ n. let y : true ≡ false = sym (news-accepted m.items t key) ∙ n in cc;
        seps = λ u. refl;
      }))

  walked_took : (size : ℕ) (deep : Bool) (w : Walked) → walk t content (prefixes (standing_at m t).separator key) m.items no_item ≡ w → Took (at_walked w deep m t key size)
  unfolding at_walked
  walked_took size deep Walked.blocked is = refused_took NotContainer refl
  walked_took size deep (Walked.walked after) is = pick_took _ _ _ (refused_took NestedTooDeep refl) (counted_took size after is)

  put_took : (size : ℕ) (deep : Bool) → Took (put m t key content size deep)
  unfolding put
  put_took size deep = walked_took size deep _ refl

  keyed_took : (r : Reply Inserted) → Took r → Took (keyed m key r)
  unfolding keyed
  keyed_took r x = pick_took _ _ _ (pick_took _ _ _ (refused_took KeyTooLong refl) x) (refused_took (KeyNotUtf8 _) refl)

pub value_took : (m : Builder) (t : ℕ) (key value : List ℕ) → Took m t key (Content.bytes value) (insert_value m t key value)
unfolding insert_value
value_took m t key value =
    let c = Content.bytes value in
    pick_took m t key c _ _ _ (keyed_took m t key c _ (put_took m t key c (length value) false)) (refused_took m t key c TableUnknown refl)

-- ---- a table that is placed keeps its separator, and its items

set_sep : (l : List Standing) (g u : ℕ) (x : Standing) → x.separator ≡ (get_or l g no_standing).separator → (get_or (set l g x) u no_standing).separator ≡ (get_or l u no_standing).separator
set_sep [] g u x e = refl
set_sep (y ∷ l) zero zero x e = e
set_sep (y ∷ l) zero (suc u) x e = refl
set_sep (y ∷ l) (suc g) zero x e = refl
set_sep (y ∷ l) (suc g) (suc u) x e = set_sep l g u x e

placed_sep : (m : Builder) (g u : ℕ) → (standing_at (place m g) u).separator ≡ (standing_at m u).separator
unfolding place standing_at
placed_sep m g u = set_sep m.tables g u (record { separator = (standing_at m g).separator; placed = true }) refl

placed_items : (m : Builder) (g : ℕ) → (place m g).items ≡ m.items
unfolding place
placed_items m g = refl

placed_took : (m : Builder) (t : ℕ) (key : List ℕ) (content : Content) (g : ℕ) (a : Inserted) → eqb (inserted_number a) 0 ≡ true → (after : Builder)
    → Took m t key content (result a after) → Took m t key content (result a (place after g))
placed_took m t key content g a yes-it-is after x = record {
  took = λ n u k. ap (λ (l : List Entry). held_in l u k) (placed_items after g) ∙ x.took n u k;
  kept = λ n. let y : true ≡ false = sym yes-it-is ∙ n in cc;
  seps = λ u. placed_sep after g u ∙ x.seps u;
}

settled_took : (m : Builder) (t : ℕ) (key : List ℕ) (content : Content) (g : ℕ) (a : Inserted) (after : Builder) → Took m t key content (result a after)
    → Took m t key content (settled g (result a after))
unfolding settled when_accepted inserted_number
settled_took m t key content g (Ok _) after x = placed_took m t key content g _ refl after x
settled_took m t key content g (Err why) after x = x

pub table_took : (m : Builder) (t : ℕ) (key : List ℕ) (guest : ℕ) → Took m t key (Content.nested guest) (insert_table m t key guest)
unfolding insert_table
table_took m t key guest =
    let c = Content.nested guest in
    let r = put m t key c 0 (ltb deepest (suc (height m guest))) in
    pick_took m t key c _ _ _
    (pick_took m t key c _ _ _
    (pick_took m t key c _ _ _ (refused_took m t key c TableInItself refl)
    (keyed_took m t key c _ (settled_took m t key c guest r.answer r.after (put_took m t key c 0 (ltb deepest (suc (height m guest)))))))
    (refused_took m t key c TableUnknown refl))
    (refused_took m t key c TableUnknown refl)
