-- What each step does to the builder that the memory means: an item made is one entry more, an item written again is one entry set, a table
-- placed is one standing set, a new table is one standing more.
use Prim.Native.Nat.{ℕ, zero, suc, ◌+◌, ◌-◌, ◌≤◌, ◌<◌}
use native.Mathlib.Nat.{not-suc-le-zero}
use native.Mathlib.Numerals.{add-one}
use native.Mathlib.Omega.{arith}
use mathlib.Core.Path.{◌≡◌, refl, sym, ap, ◌∙◌}
use mathlib.Core.Bool.{Bool, true, false, not}
use mathlib.Core.List.{List, [], ◌∷◌, ◌++◌}
use borrow.Author.Tests.{eqb-true, eqb-false}
use lib.Dec.{eqb}
use lib.ListN.{length, set}
use lib.Seq.{set_at, set-append_left}
use Rattle.words.specs.Choice.{pick}
use Rattle.layout.specs.Item.{no_item}
use Rattle.model.specs.Table.{Content, Entry, entry_at}
use Rattle.layout.specs.Limits.{most_items, most_tables}
use Rattle.model.specs.Builder.{Standing, Builder}
use Rattle.model.specs.Walk.{entry}
use Rattle.layout.specs.Kind.{value_kind, table_kind}
use Rattle.build_memory.specs.Memory.{table_total, item_total, room_used, item_table, item_parent, key_of, Memory, memory}
use Rattle.build_memory.specs.Item.{Stored, make_item, replace_item}
use Rattle.build_memory.specs.Meaning.{content_of, entry_of, standing_of, listed, meaning}
use Rattle.build_memory.proofs.MadeLaws.{made_arena}
use Rattle.build_memory.proofs.MeaningLaws.{length-listed, listed_at}
use Rattle.history.specs.Items.{Item, item, item_of, Table, table_of}
use Rattle.history.specs.Tidy.{Tidy}
use Rattle.history.proofs.TidyMade as made
use Rattle.history.proofs.TidyReplaced as old
use Rattle.history.proofs.GoodContainers.{Lows, lows_two}
use Rattle.history.proofs.HonestCalls.{lows_table}

-- ---- lists by index

module _ {A : Type 0} where
  pub listed_cong : (f g : ℕ → A) (n : ℕ) → ((i : ℕ) → i < n → f i ≡ g i) → listed f n ≡ listed g n
  unfolding listed
  listed_cong f g zero h = refl
  listed_cong f g (suc n) h =
      ap (λ (l : List A). l ++ (f n ∷ [])) (listed_cong f g n (λ i l. h i (omega arith))) ∙ ap (λ (x : A). listed g n ++ (x ∷ [])) (h n (omega arith))

  -- one more at the end
  pub listed_more : (f g : ℕ → A) (n : ℕ) (x : A) → ((i : ℕ) → i < n → g i ≡ f i) → g n ≡ x → listed g (n + 1) ≡ listed f n ++ (x ∷ [])
  unfolding listed
  listed_more f g n x h e =
      ap (listed g) (add-one n) ∙ ap (λ (l : List A). l ++ (g n ∷ [])) (listed_cong g f n h) ∙ ap (λ (y : A). listed f n ++ (y ∷ [])) e

  -- one set
  pub listed-set : (f g : ℕ → A) (n o : ℕ) (x : A) → o < n → ((i : ℕ) → i < n → (i ≡ o → ⊥) → g i ≡ f i) → g o ≡ x → listed g n ≡ set (listed f n) o x
  unfolding listed
  listed-set f g zero o x l h e = absurd (not-suc-le-zero l)
  listed-set f g (suc n) o x l h e = by_field (eqb o n) refl (λ (u : o < n). listed-set f g n o x u (λ i v w. h i (omega arith) w) e)
    where
      by_field : (q : Bool) → eqb o n ≡ q → (o < n → listed g n ≡ set (listed f n) o x) → listed g n ++ (g n ∷ []) ≡ set (listed f n ++ (f n ∷ [])) o x
      by_field true q ih =
          let z = eqb-true o n q in
          ap (λ (l : List A). l ++ (g n ∷ [])) (listed_cong g f n (λ i u. h i (omega arith) (λ (y : i ≡ o). omega arith)))
          ∙ ap (λ (y : A). listed f n ++ (y ∷ [])) (ap g (sym z) ∙ e)
          ∙ sym (set_at (listed f n) (f n) [] x o (length-listed f n ∙ sym z))
      by_field false q ih =
          let ne = eqb-false o n q in
          ap (λ (l : List A). l ++ (g n ∷ [])) (ih (omega arith))
          ∙ ap (λ (y : A). set (listed f n) o x ++ (y ∷ [])) (h n (omega arith) (λ (y : n ≡ o). ne (sym y)))
          ∙ sym (set-append_left (listed f n) (f n ∷ []) o x (omega (arith, length-listed f n)))

-- ---- an entry from an item, a standing from a table

unfoldable pub content_from : ℕ → List ℕ → ℕ → Content
content_from kind value guest = pick (eqb kind value_kind) (Content.bytes value) (pick (eqb kind table_kind) (Content.nested guest) Content.container)

-- a parent that is an index plus 1, or 0, as the item above
unfoldable pub above_of : ℕ → ℕ
above_of parent = pick (eqb parent 0) no_item (parent - 1)

unfoldable pub entry_from : Item → Entry
entry_from x = entry x.table x.key (content_from x.kind x.value x.guest) (above_of x.parent)

unfoldable pub standing_from : Table → Standing
standing_from x = record { separator = x.sep; placed = not (eqb x.placed 0) }

pub entry_is : (ws ar : List ℕ) (i : ℕ) → entry_of ws ar i ≡ entry_from (item_of ws ar i)
unfolding entry_of content_of entry_from item_of content_from above_of
entry_is ws ar i = refl

pub standing_is : (ws : List ℕ) (t : ℕ) → standing_of ws t ≡ standing_from (table_of ws t)
unfolding standing_of standing_from table_of
standing_is ws t = refl

-- ---- the parts of what memory means

abbrev pub builder : ℕ → ℕ → List Standing → List Entry → Builder
builder room used tables items = record { room = room; used = used; tables = tables; items = items }

abbrev pub items_of : List ℕ → List ℕ → List Entry
items_of ws ar = listed (entry_of ws ar) (item_total ws)

abbrev pub tables_of : List ℕ → List Standing
tables_of ws = listed (standing_of ws) (table_total ws)

pub builder_same : {r r' u u' : ℕ} {T T' : List Standing} {I I' : List Entry} → r ≡ r' → u ≡ u' → T ≡ T' → I ≡ I' → builder r u T I ≡ builder r' u' T' I'
builder_same a b c d = cc

pub items_count : (ws ar : List ℕ) → length (items_of ws ar) ≡ item_total ws
items_count ws ar = length-listed (entry_of ws ar) (item_total ws)

pub item_at_lem : (ws ar : List ℕ) (i : ℕ) → i < item_total ws → entry_at (items_of ws ar) i ≡ entry_from (item_of ws ar i)
unfolding entry_at
item_at_lem ws ar i h = listed_at (entry_of ws ar) _ (item_total ws) i h ∙ entry_is ws ar i

pub tables_count : (ws : List ℕ) → length (tables_of ws) ≡ table_total ws
tables_count ws = length-listed (standing_of ws) (table_total ws)

-- tables that are told the same
pub tables_same : (ws w : List ℕ) → Lows ws w → table_total ws ≤ most_tables → tables_of w ≡ tables_of ws
tables_same ws w l few =
    ap (listed (standing_of w)) (lows_two ws w l)
    ∙ listed_cong (standing_of w) (standing_of ws) (table_total ws) (λ i u. standing_is w i ∙ ap standing_from (lows_table ws w l i (omega arith)) ∙ sym (standing_is ws i))

-- ---- an item made

module _ (ws ar : List ℕ) (t parent : ℕ) (k : List ℕ) (c : Stored) (tidy : Tidy ws ar) (few : item_total ws < most_items)
    (room : room_used ws + length k + length c.value ≤ length ar) where
  abbrev m : Memory
  m = make_item (memory ws ar) t parent k c

  pub items_made : items_of m.words m.arena ≡ items_of ws ar ++ (entry_from (item t k parent c.kind c.value c.guest) ∷ [])
  items_made =
      ap (listed (entry_of m.words m.arena)) (made.made_three ws ar t parent k c tidy few room)
      ∙ listed_more (entry_of ws ar) (entry_of m.words m.arena) (item_total ws) (entry_from (item t k parent c.kind c.value c.guest))
      (λ i l. entry_is m.words m.arena i ∙ ap entry_from (made.other_item ws ar t parent k c tidy few room i l) ∙ sym (entry_is ws ar i))
      (entry_is m.words m.arena (item_total ws) ∙ ap entry_from (made.its_item ws ar t parent k c tidy few room))

  pub meaning_made : meaning m.words m.arena
      ≡ builder (length ar) (room_used ws + length k + length c.value) (meaning ws ar).tables
      ((meaning ws ar).items ++ (entry_from (item t k parent c.kind c.value c.guest) ∷ []))
  unfolding meaning
  meaning_made =
      builder_same (made_arena ws ar t parent k c) (made.made_four ws ar t parent k c tidy few room)
      (tables_same ws m.words (made.made_table_word ws ar t parent k c tidy few room) tidy.valid-memory.tables) items_made

-- ---- an item written again

module _ (ws ar : List ℕ) (i : ℕ) (c : Stored) (tidy : Tidy ws ar) (there : i < item_total ws) (room : room_used ws + length c.value ≤ length ar) where
  abbrev n : Memory
  n = replace_item (memory ws ar) i c

  abbrev again : Entry
  again = entry_from (item (item_table ws i) (key_of ws ar i) (item_parent ws i) c.kind c.value c.guest)

  pub items_replaced : items_of n.words n.arena ≡ set (items_of ws ar) i again
  items_replaced =
      ap (listed (entry_of n.words n.arena)) (old.old_three ws ar i c tidy there room)
      ∙ listed-set (entry_of ws ar) (entry_of n.words n.arena) (item_total ws) i again there
      (λ j l ne. entry_is n.words n.arena j ∙ ap entry_from (old.else_item ws ar i c tidy there room j l ne) ∙ sym (entry_is ws ar j))
      (entry_is n.words n.arena i ∙ ap entry_from (old.old_item ws ar i c tidy there room))

  pub meaning_replaced : meaning n.words n.arena
      ≡ builder (length ar) (room_used ws + length c.value) (meaning ws ar).tables (set (meaning ws ar).items i again)
  unfolding meaning
  meaning_replaced =
      builder_same (old.old_arena ws ar i c tidy there room) (old.old_four ws ar i c tidy there room)
      (tables_same ws n.words (old.old_table_word ws ar i c tidy there room) tidy.valid-memory.tables) items_replaced
