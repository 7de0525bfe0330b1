-- Document 01's image of "a/b" with 07, as a history of calls, and the file that a header makes of it.
use Rattle.std.specs.Prelude.{Ok}
use Rattle.model.specs.Inserted.{Inserted}
use Prim.Native.Nat.{ℕ, ◌-◌, ◌≤◌}
use mathlib.Core.Path.{◌≡◌, refl, sym, ap, ◌∙◌, subst}
use mathlib.Core.Bool.{Bool, true, false, ◌||◌}
use mathlib.Core.List.{List, [], ◌∷◌}
use native.Mathlib.Omega.{arith}
use borrow.Author.Tests.{le-leb, le-ltb}
use lib.Dec.{ltb, eqb}
use lib.ListN.{length, take}
use Rattle.layout.specs.Limits.{deepest}
use Rattle.layout.specs.Sizes.{chunk_size}
use Rattle.words.specs.Choice.{pick}
use Rattle.words.specs.Below.{some_below}
use Rattle.key_hash.specs.declared.hash.Form.{Form}
use Rattle.key_hash.specs.Hash.{plain, hash_from, hash_by, rule_of}
use Rattle.words.specs.Store.{part}
use Rattle.words.proofs.ChoiceLaws.{pick_true, pick-false}
use Rattle.key_order.specs.Compare.{same_bytes}
use Rattle.key_order.specs.Order.{precedes}
use Rattle.key_order.specs.Prefix.{ends_from, prefixes}
use Rattle.text.specs.Utf8.{between, tail, is_two, starts_three, starts_four, first_of, sequence_len, step_len, one_more, good_from, first_bad, is_utf8}
use Rattle.layout.specs.Item.{no_item}
use Rattle.model.specs.Table.{Content, State, entry_at, members_below, rows_of}
use Rattle.model.specs.Walk.{entry}
use Rattle.model.specs.Builder.{Builder, Reply, separator_of, standing_at, free_standing, new_table}
use Rattle.model.specs.Worked as worked
use Rattle.image.specs.Worked.{two, lengths}
use Rattle.image.specs.Index.{insert_key, sort_keys, key_order, hashes_of, bucket_of, run, runs_below, by_bucket, by_index, item_of}
use Rattle.image.specs.Image.{image_of}
use Rattle.build_memory.specs.Memory.{Memory, memory, least_words, fresh_start}
use Rattle.build_memory.specs.Answer.{started_number}
use Rattle.build_tables.specs.Answer.{added_number, added_table}
use Rattle.build_values.specs.Answer.{inserted_number, inserted_kind, inserted_at}
use Rattle.write.specs.Write.{empty_held, has_empty, too_long, written_number}
use Rattle.answers.specs.declared.reading.GvdbPlace.{GvdbPlace}
use Rattle.file_header.specs.Answer.{header_laid_number}
use Rattle.file_header.specs.Header.{header_laid, with_header}
use Rattle.answers.specs.Header.{order_of}
use Rattle.answers.specs.Manner.{form_of}
use Rattle.answers_build.specs.Writing.{written_image}
use Rattle.demands.specs.Calls.{Call, Does, Starts, Event, event, History}
use Rattle.demands.specs.Readers.{Getting}
use Rattle.demands.specs.Last.{Held, or_else, puts, among, passes, made_by, separator, last, passed, held}
use Rattle.demands.specs.Model.{tables_of, image_in, write, added, inserted, written, says, makes, built}
use Rattle.demands.specs.Demand2.{Tells, Answers}
use Rattle.demands.specs.File.{FileLaid}
use Rattle.demands.specs.Demand3.{AllPass}
use Rattle.demands.specs.Children.{Contains}
use Rattle.demands.specs.Inhabited.{worked_key, worked_events, WorkedHistory}
use Rattle.demands.specs.InhabitedToo.{WorkedFile, FileCanBeLaid}
use Rattle.demands.proofs.Contracts.{answers, leaves, leaves_lent}
use Rattle.demands.proofs.Answered.{starts, does, lays, gets, gets_table, checks}
use Rattle.demands.proofs.Files.{header_is_taken, header_reads_back, demand_2_file, demand_3_file}
use Rattle.demands.proofs.Models.{calls_are_the_models}
use Rattle.demands.proofs.Demands.{demand_2}

-- ---- on the model

abbrev table : Call
table = Call.new_table (47 ∷ [])

abbrev insert : Call
insert = Call.insert_value 0 worked_key (7 ∷ [])

-- what the builder holds then
abbrev b : Builder
b = record {
  room = 8;
  used = 6;
  tables = record { separator = 47; placed = false } ∷ [];
  items = entry 0 (97 ∷ 47 ∷ []) Content.container no_item ∷ entry 0 worked_key (Content.bytes (7 ∷ [])) 0 ∷ [];
}

table-says : says (built 8 []) table ≡ 0 ∷ 0 ∷ []
unfolding says built new_table separator_of pick added added_number added_table
table-says = refl

insert_says : (said : List ℕ) → says (built 8 (event table said ∷ [])) insert ≡ 0 ∷ 0 ∷ 0 ∷ []
unfolding says built makes worked.start inserted inserted_number inserted_kind inserted_at
insert_says said = ap (λ (r : Reply Inserted). inserted r.answer) worked.made

built_is : built 8 worked_events ≡ b
unfolding built makes worked.start
built_is = ap (λ (r : Reply Inserted). r.after) worked.made

-- ---- the write

named_is : has_empty (tables_of b) deepest 0 ≡ false
unfolding has_empty empty_held some_below rows_of members_below entry_at pick item_of by_index by_bucket runs_below run bucket_of hashes_of hash_by hash_from key_order sort_keys insert_key precedes
named_is = refl

size_is : length (image_in plain 0 b 0) ≡ 104
unfolding image_in two
size_is = lengths.2

count_is : length (tables_of b 0).members ≡ 2
unfolding rows_of members_below entry_at pick
count_is = refl

free_is : free_standing b 0 ≡ true
unfolding free_standing standing_at
free_is = refl

base_form : form_of 0 ≡ Form.Plain
unfolding form_of pick
base_form = refl

write-says : (buffer : List ℕ) → 104 ≤ length buffer → says b (Call.write 0 buffer 0 0) ≡ 0 ∷ 24 ∷ 88 ∷ 104 ∷ []
unfolding says written write written_number written_image too_long chunk_size
write-says buffer room =
    ap (λ (f : Form). written (write (rule_of f) 0 b 0 (length buffer))) base_form
    ∙ ap written
    (pick_true _ _ free_is
    ∙ pick-false _ _ (le-ltb 1024 0 (omega arith))
    ∙ pick-false _ _ named_is
    ∙ pick-false _ _ (ap (λ (n : ℕ). ltb 16777216 n || ltb (length buffer) n) size_is ∙ le-ltb (length buffer) 104 room)
    ∙ (let z : _ ≡ Ok (record { start = 24; end = 88; length = 104 }) = rw (size_is, count_is) refl in z))

-- ---- what stands under both keys

holds_it : held 0 worked_key worked_events ≡ Held.holds (Content.bytes (7 ∷ []))
unfolding held last puts or_else pick same_bytes
holds_it = refl

text_it : is_utf8 worked_key ≡ true
unfolding is_utf8 first_bad good_from one_more step_len sequence_len first_of is_two starts_three starts_four tail between
text_it = refl

abbrev folder : List ℕ
folder = 97 ∷ 47 ∷ []

holds_folder : held 0 folder worked_events ≡ Held.holds Content.container
unfolding held last passed passes among separator made_by separator_of prefixes ends_from puts or_else pick same_bytes
holds_folder = refl

text_folder : is_utf8 folder ≡ true
unfolding is_utf8 first_bad good_from one_more step_len sequence_len first_of is_two starts_three starts_four tail between
text_folder = refl

-- ---- the history

fresh-says : (m : Memory) → least_words ≤ length m.words → started_number (fresh_start m.words m.arena).answer ≡ 0
unfolding fresh_start started_number pick
fresh-says m long = rw (le-leb least_words (length m.words) long) refl

-- one call more, with the answer that the model says
more : (room : ℕ) (events : List Event) (m : Memory) → History room events m → (call : Call) (said : List ℕ) → says (built room events) call ≡ said
    → History room (event call said ∷ events) (leaves m call)
more room events m h call said is =
    let d = does m call in
    let e = (calls_are_the_models room events m h call _ _ _ d).0 ∙ is in
    subst (λ (x : List ℕ). History room (event call x ∷ events) (leaves m call)) e (History.then room events m h call _ _ _ d)

module _ (start : Memory) (long : least_words ≤ length start.words) (eight : length start.arena ≡ 8) where
  abbrev m0 : Memory
  m0 = memory (fresh_start start.words start.arena).after.words start.arena

  abbrev m2 : Memory
  m2 = leaves (leaves m0 table) insert

  history : History 8 worked_events m2
  history =
      let s = subst (λ (n : ℕ). Starts start n m0) (fresh-says start long) (starts start) in
      let h0 = subst (λ (n : ℕ). History n [] m0) eight (History.start start m0 s) in
      let h1 = more 8 [] m0 h0 table (0 ∷ 0 ∷ []) table-says in
      more 8 (event table (0 ∷ 0 ∷ []) ∷ []) (leaves m0 table) h1 insert (0 ∷ 0 ∷ 0 ∷ []) (insert_says (0 ∷ 0 ∷ []))

  module _ (buffer : List ℕ) (room : 104 ≤ length buffer) where
    abbrev left : List ℕ
    left = leaves_lent m2 (Call.write 0 buffer 0 0)

    wrote : Does m2 (Call.write 0 buffer 0 0) (0 ∷ 24 ∷ 88 ∷ 104 ∷ []) m2 left
    unfolding leaves
    wrote =
        let d = does m2 (Call.write 0 buffer 0 0) in
        let e = (calls_are_the_models 8 worked_events m2 history (Call.write 0 buffer 0 0) _ _ _ d).0 ∙ ap (λ (x : Builder). says x (Call.write 0 buffer 0 0)) built_is ∙ write-says buffer room in
        subst (λ (x : List ℕ). Does m2 (Call.write 0 buffer 0 0) x m2 left) e d

    finds : (r : GvdbPlace) → Getting (take 104 left) 24 88 worked_key 0 r → (r.number ≡ 0) × (part (take 104 left) r.start (r.end - r.start) ≡ 7 ∷ [])
    unfolding Answers Tells
    finds =
        (subst (Tells 0 (λ u from to. Answers 0 worked_events m2 (take 104 left) 7 u from to) (take 104 left) 24 88 worked_key) holds_it
        ((demand_2 8 worked_events m2 history 0 buffer 0 0 24 88 104 m2 left wrote 0 refl).1 worked_key text_it)).0

pub worked_history : WorkedHistory
worked_history start buffer long eight room =
    (m2 start long eight, left start long eight buffer room, history start long eight, wrote start long eight buffer room, finds start long eight buffer room)

-- ---- with a header

module _ (m : Memory) (h : History 8 worked_events m) (big : ℕ) (file : List ℕ) (f : FileLaid m 0 big 0 0 24 88 0 file) where
  folder_contains : Contains file 24 88 folder 0
  unfolding Answers Tells AllPass
  folder_contains =
      let told = subst (Tells 0 (λ u from to. Answers 0 worked_events m file 7 u from to) file 24 88 folder) holds_folder
      ((demand_2_file 8 worked_events m h 0 big 0 0 24 88 0 file f 0 refl).1 folder text_folder) in
      record {
        check = _;
        checked = checks file 24 88 0;
        passes = (demand_3_file m 0 big 0 0 24 88 0 file f 0 refl).0 _ (checks file 24 88 0);
        value = _;
        got = gets file 24 88 folder 0;
        no_value = told.value _ (gets file 24 88 folder 0);
        table = _;
        got_table = gets_table file 24 88 folder 0;
        no_table = told.table _ (gets_table file 24 88 folder 0);
      }

  worked_file : WorkedFile file big
  unfolding Answers Tells
  worked_file = record {
    header = header_reads_back m 0 big 0 0 24 88 0 file f;
    value = (subst (Tells 0 (λ u from to. Answers 0 worked_events m file 7 u from to) file 24 88 worked_key) holds_it
        ((demand_2_file 8 worked_events m h 0 big 0 0 24 88 0 file f 0 refl).1 worked_key text_it)).0;
    container = folder_contains;
  }

pub file_can_be_laid : FileCanBeLaid
file_can_be_laid start buffer big long eight room =
    let m = m2 start long eight in
    let image = take 104 (left start long eight buffer room) in
    let file = with_header image (order_of big) 24 88 in
    let number = header_laid_number (header_laid (length image)) in
    let first : FileLaid m 0 big 0 0 24 88 number file = record {
      buffer = buffer;
      size = 104;
      after = m;
      left = left start long eight buffer room;
      writes = wrote start long eight buffer room;
      lays = lays image big 24 88;
    } in
    let f = subst (λ (n : ℕ). FileLaid m 0 big 0 0 24 88 n file) (header_is_taken m 0 big 0 0 24 88 number file first) first in
    (m, file, history start long eight, f, worked_file m (history start long eight) big file f)
