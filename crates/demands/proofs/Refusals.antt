-- Demand 1: a refusal changes nothing.
use Rattle.std.specs.Prelude.{Result, Ok, Err, Some, None}
use Rattle.write.specs.declared.Image.{Image}
use Rattle.model.specs.Inserted.{Inserted}
use Prim.Native.Nat.{ℕ, ◌+◌}
use mathlib.Core.Path.{◌≡◌, refl, sym, ap, ◌∙◌}
use mathlib.Core.Bool.{Bool, true, false}
use mathlib.Core.List.{List}
use lib.Dec.{eqb, leb, ltb}
use lib.ListN.{length}
use Rattle.key_hash.specs.Hash.{rule_of}
use Rattle.words.specs.Choice.{pick}
use Rattle.words.specs.Store.{put_at}
use Rattle.words.proofs.ChoiceLaws.{pick_with}
use Rattle.layout.specs.declared.refusal.Refusal.{Refusal}
use Rattle.layout.specs.declared.refusal.Refusal.TheVariants.{SeparatorOutside, TooManyTables, MemoryBroken, BufferTooShort}
use Rattle.file_header.specs.Answer.{header_laid_number}
use Rattle.file_header.specs.Header.{header_bytes, header_laid, when_laid, with_header}
use Rattle.read_chain.specs.Chain.{Joined}
use Rattle.read_listing.specs.Listing.{key_at, listed, written}
use Rattle.read_listing.specs.Answer.{listed_number}
use Rattle.build_memory.specs.Memory.{least_words, Memory, Outcome, fresh_start}
use Rattle.build_memory.specs.Answer.{started_number}
use Rattle.build_tables.specs.Table.{not_added, add_table, new_table}
use Rattle.build_tables.specs.Answer.{added_number}
use Rattle.build_values.specs.Insert.{insert_value}
use Rattle.build_values.specs.Answer.{inserted_number}
use Rattle.build_values.proofs.AnswerLaws.{Still, value_still}
use Rattle.build_nested.specs.Nest.{insert_table}
use Rattle.build_nested.proofs.AnswerLaws.{table_still}
use Rattle.write.specs.Write.{write_answer, written_number, image_for, laid_by, image_after}
use Rattle.answers.specs.declared.reading.GvdbKey.{GvdbKey}
use Rattle.answers.specs.Header.{order_of}
use Rattle.answers.specs.Reading.{listed_answer}
use Rattle.answers.specs.Manner.{form_of}
use Rattle.demands.specs.Calls.{Call, lent, accepted}
use Rattle.demands.specs.Model as model
use Rattle.demands.specs.Demand1.{RefusalChangesNothing, RefusedStartChangesNothing, RefusedListingWritesNothing, RefusedHeaderWritesNothing}
use Rattle.demands.proofs.Contracts.{answers, leaves, leaves_lent, does_is, starts_is, listing_is, laying_header_is}

-- ---- inserts

inserted_still : (m : Memory) (o : Outcome Inserted) → Still m.words m.arena o → (a : Inserted) → o.answer ≡ a → eqb (inserted_number a) 0 ≡ false → o.after ≡ m
unfolding inserted_number
inserted_still m o s (Ok _) e n = cc
inserted_still m o s (Err why) e n = s.same why e

-- ---- a new table

pub record TableStill (m : Memory) (o : Outcome (Result ℕ Refusal)) : Type 0 where
  pub same : eqb (added_number o.answer) 0 ≡ false → o.after ≡ m

table_stays : (m : Memory) (why : Refusal) → TableStill m (not_added why m.words m.arena)
table_stays m why = record { same = λ n. refl }

new_table_still : (m : Memory) (separator : List ℕ) → TableStill m (new_table m.words m.arena separator)
unfolding new_table add_table added_number
new_table_still m separator =
    pick_with (TableStill m) _ _ _
    (λ _. pick_with (TableStill m) _ _ _ (λ _. table_stays m SeparatorOutside)
    (λ _. pick_with (TableStill m) _ _ _ (λ _. table_stays m TooManyTables) (λ _. record { same = λ n. cc })))
    (λ _. table_stays m MemoryBroken)

-- ---- a write

laid_still : (a : Result Image Refusal) (image buffer : List ℕ) → eqb (written_number a) 0 ≡ false → laid_by a image buffer ≡ buffer
unfolding laid_by written_number
laid_still (Ok i) image buffer n = cc
laid_still (Err why) image buffer n = refl

-- ---- all of them

call_still : (m : Memory) (call : Call) → accepted (answers m call) ≡ false → (leaves m call ≡ m) × (leaves_lent m call ≡ lent call)
unfolding answers model.added model.inserted model.counted model.written leaves lent leaves_lent image_after
call_still m (Call.new_table separator) n = ((new_table_still m separator).same n, refl)
call_still m (Call.insert_value t key value) n =
    (inserted_still m (insert_value m.words m.arena t key value) (value_still m.words m.arena t key value) _ refl n, refl)
call_still m (Call.insert_table t key guest) n =
    (inserted_still m (insert_table m.words m.arena t key guest) (table_still m.words m.arena t key guest) _ refl n, refl)
call_still m (Call.item_count t) n = (refl, refl)
call_still m (Call.write t buffer manner filter) n = (refl, laid_still (write_answer (rule_of (form_of manner)) filter m.words m.arena t (length buffer)) (image_for (rule_of (form_of manner)) filter m.words m.arena t) buffer n)

pub refusal_changes_nothing : RefusalChangesNothing
refusal_changes_nothing m call said after left d n =
    let did = does_is m call said after left d in
    let (same, still) = call_still m call (ap accepted (sym did.answer) ∙ n) in
    (did.memory ∙ same, did.lent ∙ still)

started_still : (m : Memory) (b : Bool) → leb least_words (length m.words) ≡ b → (started_number (fresh_start m.words m.arena).answer ≡ 0 → ⊥)
    → (fresh_start m.words m.arena).after ≡ m
unfolding fresh_start started_number pick
started_still m true e n = absurd (n (rw e refl))
started_still m false e n = rw e refl

pub refused_start_changes_nothing : RefusedStartChangesNothing
refused_start_changes_nothing m said after s n =
    let is = starts_is m said after s in
    is.1 ∙ started_still m (leb least_words (length m.words)) refl (λ e. n (is.0 ∙ e))

-- ---- key listing

listed_still : (j : Joined) (out : List ℕ) (at : ℕ) → (listed_number (listed j (length out) at) ≡ 0 → ⊥) → written j out ≡ out
unfolding listed written listed_number pick
listed_still (Joined.broken why) out at n = refl
listed_still (Joined.joined k) out at n = by (ltb (length out) (length k)) n
  where
    by : (b : Bool) → (listed_number (pick b (Err BufferTooShort) (Ok (record { size = length k; next = record { at = at + 1 } }))) ≡ 0 → ⊥) → pick b out (put_at out 0 k) ≡ out
    by true n = refl
    by false n = absurd (n refl)

pub refused_listing_writes_nothing : RefusedListingWritesNothing
unfolding listed_answer
refused_listing_writes_nothing file start end position out r left l n =
    let is = listing_is file start end position out r left l in
    is.1 ∙ listed_still (key_at file start end position) out position (λ e. n (ap (λ (k : GvdbKey). k.number) is.0 ∙ e))

-- ---- laying a header

header_still : (a : Result (Unit {0}) Refusal) (laid target : List ℕ) → (header_laid_number a ≡ 0 → ⊥) → when_laid a laid target ≡ target
unfolding when_laid header_laid_number
header_still (Ok _) laid target n = absurd (n refl)
header_still (Err why) laid target n = refl

pub refused_header_writes_nothing : RefusedHeaderWritesNothing
unfolding with_header
refused_header_writes_nothing target big start end number left l n =
    let is = laying_header_is target big start end number left l in
    is.1 ∙ header_still (header_laid (length target)) (put_at target 0 (header_bytes (order_of big) start end)) target (λ e. n (is.0 ∙ e))
