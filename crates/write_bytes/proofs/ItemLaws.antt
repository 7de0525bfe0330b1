-- A slot of a numbered table that fits: its value by kind, where its item ends, and its item laid.
use mathlib.Core.Path.{◌≡◌, sym, ap, ◌∙◌}
use mathlib.Core.Logic.{⊎_elim}
use mathlib.Core.List.{List}
use Prim.Native.Nat.{ℕ, ◌+◌, ◌≤◌, ◌<◌, ◌^◌}
use native.Mathlib.Omega.{arith}
use lib.ListN.{length, length-append}
use Rattle.words.specs.Store.{put_at}
use Rattle.image.specs.Laid.{Laid}
use Rattle.words.proofs.ChoiceLaws.{eq_or_ne}
use Rattle.image.proofs.LaidLaws.{laid_join}
use Rattle.layout.specs.Kind.{value_kind, table_kind}
use Rattle.layout.specs.Limits.{most_items, most_filter, longest_file}
use Rattle.write_parts.specs.Numbered.{slot_kind, slot_value_word, slot_value, SlotFits, NumberedFits, slot_cover}
use Rattle.write_parts.specs.Slot.{slot_start, slot_record, slot_key, plain_value, slot_item, SlotIn, CoverFits, RecordFits}
use Rattle.write_parts.proofs.KindLaws.{kind_value, kind_table, kind_container}
use Rattle.write_parts.proofs.SlotLaws.{cover_value, cover_table, cover_container, start_above, length_key}
use Rattle.write_parts.proofs.PutLaws.{plain-bytes, plain_children, length-bytes, length_children}

-- a slot of a numbered table that fits
pub record AtSlot (numbered arena : List ℕ) (s : ℕ) : Type 0 where
  pub fits : NumberedFits numbered arena
  pub inside : s < most_items

pub at_slot : {numbered arena : List ℕ} {s : ℕ} → NumberedFits numbered arena → s < most_items → AtSlot numbered arena s
at_slot fits inside = record { fits = fits; inside = inside }

module _ {numbered arena : List ℕ} {s : ℕ} (g : AtSlot numbered arena s) where
  pub slot_in : SlotIn numbered s
  slot_in = record { long = g.fits.long; inside = g.inside }

  pub slot_fits : SlotFits numbered arena s
  slot_fits = g.fits.slots s g.inside

  pub cover_fits : CoverFits numbered s
  cover_fits = record {
    guest = slot_fits.guest;
    items = λ e. omega (arith, g.fits.tables (slot_value_word numbered s) (slot_fits.guest e));
    children = λ n m. omega (arith, slot_fits.children n m);
  }

  -- a value that is no nested table has the length that its pointer covers
  pub length-plain : (filter : ℕ) → (slot_kind numbered s ≡ table_kind → ⊥) → length (plain_value numbered arena s) ≡ slot_cover filter numbered s
  length-plain filter m =
      ⊎_elim
      (λ e. length-bytes numbered arena s e (slot_fits.value e) ∙ sym (cover_value filter numbered s e))
      (λ n. length_children numbered arena s n ∙ sym (cover_container filter numbered s n m))
      (eq_or_ne (slot_kind numbered s) value_kind)

  module _ (inner : ℕ → ℕ → List ℕ) where
    pub value-table : (at : ℕ) → slot_kind numbered s ≡ table_kind → slot_value inner numbered arena s at ≡ inner (slot_value_word numbered s) at
    unfolding slot_value
    value-table at e = kind_table _ _ _ _ e

    pub value-plain : (at : ℕ) → (slot_kind numbered s ≡ table_kind → ⊥) → slot_value inner numbered arena s at ≡ plain_value numbered arena s
    unfolding slot_value
    value-plain at m =
        ⊎_elim
        (λ e. kind_value _ _ _ _ e ∙ sym (plain-bytes numbered arena s e))
        (λ n. kind_container _ _ _ _ n m ∙ sym (plain_children numbered arena s n))
        (eq_or_ne (slot_kind numbered s) value_kind)

    pub key_end : (at : ℕ) → at + length (slot_key numbered arena s at (slot_start numbered s at)) ≡ slot_start numbered s at
    key_end at = length_key numbered s arena at (slot_start numbered s at) slot_fits.fragment (start_above numbered s at)

    -- an item ends where its value does
    pub item_end : (at : ℕ) → at + length (slot_item inner numbered arena s at) ≡ slot_start numbered s at + length (slot_value inner numbered arena s (slot_start numbered s at))
    unfolding slot_item
    item_end at =
        omega (arith, length-append (slot_key numbered arena s at (slot_start numbered s at)) (slot_value inner numbered arena s (slot_start numbered s at)), key_end at)

    -- the pointer's end fits its field, also where a nested table is left out for its depth
    stop_small : (filter start : ℕ) → filter ≤ most_filter → start + length (slot_value inner numbered arena s start) ≤ longest_file → start + slot_cover filter numbered s < 2 ^ 32
    stop_small filter start low h =
        ⊎_elim
        (λ e. omega (arith, cover_table filter numbered s e, cover_fits.items e))
        (λ m. omega (arith, ap length (value-plain start m), length-plain filter m))
        (eq_or_ne (slot_kind numbered s) table_kind)

    pub record_fits : (filter at : ℕ) → filter ≤ most_filter → at + length (slot_item inner numbered arena s at) ≤ longest_file
        → RecordFits filter numbered s at (slot_start numbered s at)
    record_fits filter at low h = record {
      hash = slot_fits.hash;
      parent = slot_fits.parent;
      key = omega (arith, item_end at, start_above numbered s at);
      size = slot_fits.size;
      kind = slot_fits.kind;
      stop = stop_small filter (slot_start numbered s at) low (omega (arith, item_end at));
    }

    -- record, key and value laid one after the other
    pub item_laid : (filter : ℕ) (l : List ℕ) (to at : ℕ) {m n o v : List ℕ} {start end : ℕ} → start ≡ slot_start numbered s at → m ≡ put_at l to (slot_record numbered filter s at start)
        → n ≡ put_at m at (slot_key numbered arena s at start) → v ≡ slot_value inner numbered arena s start → Laid n o start v end
        → Laid (put_at l to (slot_record numbered filter s at (slot_start numbered s at))) o at (slot_item inner numbered arena s at) end
    unfolding slot_item
    item_laid filter l to at {m} {n} {o} {v} {start} {end} e p q f r =
        let from = slot_start numbered s at in
        let p' : m ≡ put_at l to (slot_record numbered filter s at from) = rw (← e) p in
        let key : Laid (put_at l to (slot_record numbered filter s at from)) n at (slot_key numbered arena s at from) from = record {
          end_is = sym (key_end at);
          image_is = rw (← p', ← e) q;
        } in
        let value : Laid n o from (slot_value inner numbered arena s from) end = rw (← e, ← f) r in
        laid_join key value

    -- ---- its value and its end by the words that were read

    pub guest_is : {guest start : ℕ} → slot_kind numbered s ≡ table_kind → guest ≡ slot_value_word numbered s → inner guest start ≡ slot_value inner numbered arena s start
    guest_is {guest} {start} k g = rw g (sym (value-table start k))

    pub table-item : (at : ℕ) {guest start : ℕ} → slot_kind numbered s ≡ table_kind → guest ≡ slot_value_word numbered s → start ≡ slot_start numbered s at
        → at + length (slot_item inner numbered arena s at) ≡ start + length (inner guest start)
    table-item at {guest} {start} k g e = item_end at ∙ rw (guest_is {guest = guest} {start = start} k g, e)

    pub plain_end : (at : ℕ) {start : ℕ} → (slot_kind numbered s ≡ table_kind → ⊥) → start ≡ slot_start numbered s at
        → at + length (slot_item inner numbered arena s at) ≡ start + length (plain_value numbered arena s)
    plain_end at m e = omega (arith, e, item_end at, ap length (value-plain (slot_start numbered s at) m))

    pub plain-item : (filter at : ℕ) {start : ℕ} → (slot_kind numbered s ≡ table_kind → ⊥) → start ≡ slot_start numbered s at
        → at + length (slot_item inner numbered arena s at) ≡ start + slot_cover filter numbered s
    plain-item filter at m e = omega (arith, plain_end at m e, length-plain filter m)
