-- What the contracts say of a call is what these definitions compute from its memory: the numbers that it answers, the memory and the bytes that it leaves. A contract with
-- a clause less does not say it, and this file is refused.
use Prim.Native.Nat.{ℕ}
use mathlib.Core.Path.{◌≡◌, refl, ap}
use mathlib.Core.List.{List, [], ◌∷◌}
use lib.ListN.{length}
use Rattle.key_hash.specs.Hash.{rule_of}
use Rattle.file_header.specs.Answer.{header_laid_number}
use Rattle.file_header.specs.Header.{read_header, header_laid, with_header}
use Rattle.layout.specs.Table.{open_table}
use Rattle.read.specs.Lookup.{lookup_value, lookup_table}
use Rattle.text.specs.Utf8.{first_bad}
use Rattle.read.specs.Layered.{layered_value}
use Rattle.read_listing.specs.Listing.{key_at, listed, written, value_at}
use Rattle.read_listing.specs.Children.{next_child}
use Rattle.check_rules.specs.Rules.{check_table}
use Rattle.build_memory.specs.Memory.{Memory, memory, Outcome, fresh_start}
use Rattle.build_memory.specs.Answer.{started_number}
use Rattle.build_tables.specs.Table.{new_table, item_count}
use Rattle.build_values.specs.Insert.{insert_value}
use Rattle.build_nested.specs.Nest.{insert_table}
use Rattle.write.specs.Write.{write_answer, image_after}
use Rattle.answers_build.specs.declared.building.GvdbTable.{GvdbTable}
use Rattle.answers_build.specs.declared.building.GvdbInserted.{GvdbInserted}
use Rattle.answers_build.specs.declared.building.GvdbCount.{GvdbCount}
use Rattle.answers_build.specs.declared.writing.GvdbImage.{GvdbImage}
use Rattle.answers.specs.declared.header.GvdbHeader.{GvdbHeader}
use Rattle.answers.specs.declared.reading.GvdbOpened.{GvdbOpened}
use Rattle.answers.specs.declared.reading.GvdbPlace.{GvdbPlace}
use Rattle.answers.specs.declared.reading.GvdbLayered.{GvdbLayered}
use Rattle.answers.specs.declared.reading.GvdbKey.{GvdbKey}
use Rattle.answers.specs.declared.reading.GvdbValue.{GvdbValue}
use Rattle.answers.specs.declared.reading.GvdbChild.{GvdbChild}
use Rattle.answers.specs.declared.checking.GvdbCheck.{GvdbCheck}
use Rattle.answers.specs.Header.{order_of, headed_answer}
use Rattle.answers.specs.Manner.{form_of, manner_named}
use Rattle.answers_build.specs.Building.{told, added_answer, inserted_answer, counted_answer}
use Rattle.answers.specs.Reading.{opened_answer, looked_answer, layered_answer, listed_answer, valued_answer, childed_answer}
use Rattle.answers.specs.Checking.{checked_answer}
use Rattle.answers_build.specs.Writing.{written_answer}
use Rattle.demands.specs.Calls.{Call, Does, Starts}
use Rattle.demands.specs.Readers.{read_by, ReadingHeader, LayingHeader, Opening, Getting, GettingTable, GettingLayered, Listing, ListingValue, ListingChild, Judging, Checking}
use Rattle.demands.specs.Model as model

-- ---- the builder's calls

unfoldable pub answers : Memory → Call → List ℕ
answers m (Call.new_table separator) = model.added (new_table m.words m.arena separator).answer
answers m (Call.insert_value t key value) = model.inserted (insert_value m.words m.arena t key value).answer
answers m (Call.insert_table t key guest) = model.inserted (insert_table m.words m.arena t key guest).answer
answers m (Call.item_count t) = model.counted (item_count m.words m.arena t)
answers m (Call.write t buffer manner filter) = model.written (write_answer (rule_of (form_of manner)) filter m.words m.arena t (length buffer))

unfoldable pub leaves : Memory → Call → Memory
leaves m (Call.new_table separator) = (new_table m.words m.arena separator).after
leaves m (Call.insert_value t key value) = (insert_value m.words m.arena t key value).after
leaves m (Call.insert_table t key guest) = (insert_table m.words m.arena t key guest).after
leaves m (Call.item_count t) = m
leaves m (Call.write t buffer manner filter) = m

unfoldable pub leaves_lent : Memory → Call → List ℕ
leaves_lent m (Call.new_table separator) = []
leaves_lent m (Call.insert_value t key value) = []
leaves_lent m (Call.insert_table t key guest) = []
leaves_lent m (Call.item_count t) = []
leaves_lent m (Call.write t buffer manner filter) = image_after (rule_of (form_of manner)) filter m.words m.arena t buffer

pub record DoesAs (m : Memory) (call : Call) (said : List ℕ) (after : Memory) (left : List ℕ) : Type 0 where
  pub answer : said ≡ answers m call
  pub memory : after ≡ leaves m call
  pub lent : left ≡ leaves_lent m call

pub does_is : (m : Memory) (call : Call) (said : List ℕ) (after : Memory) (left : List ℕ) → Does m call said after left → DoesAs m call said after left
unfolding answers leaves leaves_lent model.added model.inserted model.counted model.written told added_answer inserted_answer counted_answer written_answer
does_is m call said after left (Does.new_table c) = record {
  answer = ap (λ (o : Outcome GvdbTable). o.answer.number ∷ o.answer.table ∷ []) c.meets;
  memory = ap (λ (o : Outcome GvdbTable). o.after) c.meets;
  lent = refl;
}
does_is m call said after left (Does.insert_value c) = record {
  answer = ap (λ (o : Outcome GvdbInserted). o.answer.number ∷ o.answer.replaced ∷ o.answer.at ∷ []) c.meets;
  memory = ap (λ (o : Outcome GvdbInserted). o.after) c.meets;
  lent = refl;
}
does_is m call said after left (Does.insert_table c) = record {
  answer = ap (λ (o : Outcome GvdbInserted). o.answer.number ∷ o.answer.replaced ∷ o.answer.at ∷ []) c.meets;
  memory = ap (λ (o : Outcome GvdbInserted). o.after) c.meets;
  lent = refl;
}
does_is m call said after left (Does.item_count c) =
    record { answer = ap (λ (r : GvdbCount). r.number ∷ r.count ∷ []) c.meets; memory = refl; lent = refl }
does_is m call said after left (Does.write c) = record {
  answer = ap (λ (r : GvdbImage). r.number ∷ r.start ∷ r.end ∷ r.length ∷ []) c.meets.0;
  memory = ap (λ (ws : List ℕ). memory ws c.given.1.0.now) c.meets.1.0;
  lent = c.meets.1.1;
}

-- ---- the fresh start

pub starts_is : (m : Memory) (said : ℕ) (after : Memory) → Starts m said after
    → (said ≡ started_number (fresh_start m.words m.arena).answer) × (after ≡ (fresh_start m.words m.arena).after)
unfolding told
starts_is m said after (Starts.fresh c) = (ap (λ (o : Outcome ℕ). o.answer) c.meets, ap (λ (o : Outcome ℕ). o.after) c.meets)

-- ---- the header, the readers and the check

pub reading_header_is : (file : List ℕ) (r : GvdbHeader) → ReadingHeader file r → r ≡ headed_answer (read_header file)
reading_header_is file r (ReadingHeader.reading_header c) = c.meets

pub laying_header_is : (target : List ℕ) (big start end number : ℕ) (left : List ℕ) → LayingHeader target big start end number left
    → (number ≡ header_laid_number (header_laid (length target))) × (left ≡ with_header target (order_of big) start end)
laying_header_is target big start end number left (LayingHeader.laying_header c) = c.meets

pub opening_is : (file : List ℕ) (start end : ℕ) (r : GvdbOpened) → Opening file start end r → r ≡ opened_answer (open_table file start end)
opening_is file start end r (Opening.opening c) = c.meets

pub getting_is : (file : List ℕ) (start end : ℕ) (key : List ℕ) (manner : ℕ) (r : GvdbPlace) → Getting file start end key manner r → r ≡ looked_answer (lookup_value (read_by manner) file start end key)
unfolding manner_named
getting_is file start end key manner r (Getting.getting c) = c.meets

pub getting_table_is : (file : List ℕ) (start end : ℕ) (key : List ℕ) (manner : ℕ) (r : GvdbPlace) → GettingTable file start end key manner r → r ≡ looked_answer (lookup_table (read_by manner) file start end key)
unfolding manner_named
getting_table_is file start end key manner r (GettingTable.getting_table c) = c.meets

pub listing_is : (file : List ℕ) (start end : ℕ) (position : ℕ) (out : List ℕ) (r : GvdbKey) (left : List ℕ) → Listing file start end position out r left
    → (r ≡ listed_answer (listed (key_at file start end position) (length out) position)) × (left ≡ written (key_at file start end position) out)
listing_is file start end position out r left (Listing.listing c) = c.meets

pub checking_is : (file : List ℕ) (start end manner : ℕ) (r : GvdbCheck) → Checking file start end manner r → r ≡ checked_answer (check_table (read_by manner) file start end)
unfolding manner_named
checking_is file start end manner r (Checking.checking c) = c.meets

pub getting_layered_is : (owner : List ℕ) (ostart oend : ℕ) (district : List ℕ) (dstart dend : ℕ) (key : List ℕ) (omanner dmanner : ℕ) (r : GvdbLayered)
    → GettingLayered owner ostart oend district dstart dend key omanner dmanner r
    → r ≡ layered_answer (layered_value (read_by omanner) (read_by dmanner) owner ostart oend district dstart dend key)
unfolding manner_named
getting_layered_is owner ostart oend district dstart dend key omanner dmanner r (GettingLayered.getting_layered c) = c.meets

pub listing_value_is : (file : List ℕ) (start end position : ℕ) (r : GvdbValue) → ListingValue file start end position r → r ≡ valued_answer (value_at file start end position)
listing_value_is file start end position r (ListingValue.listing_value c) = c.meets

pub listing_child_is : (file : List ℕ) (start end : ℕ) (key : List ℕ) (position manner : ℕ) (r : GvdbChild) → ListingChild file start end key position manner r
    → r ≡ childed_answer (next_child (read_by manner) file start end key position)
unfolding manner_named
listing_child_is file start end key position manner r (ListingChild.listing_child c) = c.meets

pub judging_is : (text : List ℕ) (r : ℕ) → Judging text r → r ≡ first_bad text
judging_is text r (Judging.judging c) = c.meets
