-- Every call has an answer that meets its contract: what the definitions compute.
use denote.MutBor.{MutBor}
use Prim.Native.Nat.{ℕ}
use mathlib.Core.Path.{◌≡◌, refl, sym, ap, subst}
use mathlib.Core.List.{List, []}
use denote.Ref.{Bor}
use lib.ListN.{length}
use Rattle.key_hash.specs.Hash.{rule_of}
use Rattle.words.proofs.ChoiceLaws.{pick_with}
use Rattle.text.specs.Utf8.{first_bad}
use Rattle.layout.specs.Table.{open_table}
use Rattle.file_header.specs.Answer.{header_laid_number}
use Rattle.file_header.specs.Header.{read_header, header_laid, with_header}
use Rattle.read.specs.Lookup.{lookup_value, lookup_table}
use Rattle.read.specs.Layered.{layered_value}
use Rattle.read_listing.specs.Listing.{key_at, listed, written, value_at}
use Rattle.read_listing.specs.Children.{next_child}
use Rattle.check_rules.specs.Rules.{check_table}
use Rattle.build_memory.specs.Memory.{Memory, memory, Outcome, outcome, least_words, fresh_start}
use Rattle.build_memory.specs.Answer.{started_number}
use Rattle.build_tables.specs.Table.{add_table, new_table, item_count}
use Rattle.build_values.specs.Insert.{insert_value}
use Rattle.build_nested.specs.Nest.{insert_table}
use Rattle.write.specs.Write.{write_answer, image_after}
use Rattle.answers.specs.Header.{abi, order_of, headed_answer}
use Rattle.answers.specs.Manner.{form_of, manner_named}
use Rattle.answers_build.specs.Building.{told, added_answer, inserted_answer, counted_answer}
use Rattle.answers.specs.Reading.{opened_answer, looked_answer, layered_answer, listed_answer, valued_answer, childed_answer}
use Rattle.answers.specs.Checking.{checked_answer}
use Rattle.answers_build.specs.Writing.{written_answer}
use Rattle.demands.specs.Calls.{Call, Does, Starts}
use Rattle.demands.specs.Readers.{read_by, Abi, MemoryWords, ReadingHeader, LayingHeader, Judging, Opening, Getting, GettingTable, GettingLayered, Listing, ListingValue, ListingChild, Checking}
use Rattle.demands.specs.Model as model
use Rattle.demands.specs.Inhabited.{EveryCallAnswers}
use Rattle.demands.specs.InhabitedToo.{EveryNewerCallAnswers}
use Rattle.demands.proofs.Contracts.{answers, leaves, leaves_lent}

-- a slice somewhere
abbrev lend : List ℕ → Bor (List ℕ)
lend bytes = record { ref_ptr = (0, 0); now = bytes }

-- the same, lent to be changed
abbrev lend_mut : List ℕ → MutBor (List ℕ)
lend_mut bytes = record { ref_ptr = (0, 0); ghost_name = 0; now = bytes }

-- the arena stays
record Same {A : Type 0} (ar : List ℕ) (o : Outcome A) : Type 0 where
  pub arena : o.after.arena ≡ ar

fresh_same : (ws ar : List ℕ) → Same ar (fresh_start ws ar)
unfolding fresh_start
fresh_same ws ar = pick_with (Same ar) _ _ _ (λ _. record { arena = refl }) (λ _. record { arena = refl })

table_same : (ws ar separator : List ℕ) → Same ar (new_table ws ar separator)
unfolding new_table add_table
table_same ws ar separator =
    pick_with (Same ar) _ _ _
    (λ _. pick_with (Same ar) _ _ _ (λ _. record { arena = refl }) (λ _. pick_with (Same ar) _ _ _ (λ _. record { arena = refl }) (λ _. record { arena = refl })))
    (λ _. record { arena = refl })

-- ---- the builder's calls

pub starts : (m : Memory) → Starts m (started_number (fresh_start m.words m.arena).answer) (memory (fresh_start m.words m.arena).after.words m.arena)
unfolding told
starts m =
    let o = fresh_start m.words m.arena in
    Starts.fresh (record {
      lifetimes = ([], ([], tt));
      given = (lend_mut m.words, (lend m.arena, tt));
      answer = started_number o.answer;
      left = (lend_mut o.after.words, (lend m.arena, tt));
      meets = ap (λ (ar : List ℕ). outcome (started_number o.answer) (memory o.after.words ar)) (sym (fresh_same m.words m.arena).arena);
    })

new_table_does : (m : Memory) (separator : List ℕ)
    → Does m (Call.new_table separator) (model.added (new_table m.words m.arena separator).answer) (memory (new_table m.words m.arena separator).after.words m.arena) []
unfolding told model.added added_answer
new_table_does m separator =
    let o = new_table m.words m.arena separator in
    Does.new_table (record {
      lifetimes = ([], ([], ([], tt)));
      given = (lend_mut m.words, (lend m.arena, (lend separator, tt)));
      answer = added_answer o.answer;
      left = (lend_mut o.after.words, (lend m.arena, (lend separator, tt)));
      meets = ap (λ (ar : List ℕ). outcome (added_answer o.answer) (memory o.after.words ar)) (sym (table_same m.words m.arena separator).arena);
    })

pub does : (m : Memory) (call : Call) → Does m call (answers m call) (leaves m call) (leaves_lent m call)
unfolding answers leaves leaves_lent told model.added model.inserted model.counted model.written added_answer inserted_answer counted_answer written_answer
does m (Call.new_table separator) =
    let o = new_table m.words m.arena separator in
    subst (λ (ar : List ℕ). Does m (Call.new_table separator) (model.added o.answer) (memory o.after.words ar) []) (sym (table_same m.words m.arena separator).arena)
    (new_table_does m separator)
does m (Call.insert_value t key value) =
    let o = insert_value m.words m.arena t key value in
    Does.insert_value (record {
      lifetimes = ([], ([], ([], ([], tt))));
      given = (lend_mut m.words, (lend_mut m.arena, (t, (lend key, (lend value, tt)))));
      answer = inserted_answer o.answer;
      left = (lend_mut o.after.words, (lend_mut o.after.arena, (t, (lend key, (lend value, tt)))));
      meets = refl;
    })
does m (Call.insert_table t key guest) =
    let o = insert_table m.words m.arena t key guest in
    Does.insert_table (record {
      lifetimes = ([], ([], ([], tt)));
      given = (lend_mut m.words, (lend_mut m.arena, (t, (lend key, (guest, tt)))));
      answer = inserted_answer o.answer;
      left = (lend_mut o.after.words, (lend_mut o.after.arena, (t, (lend key, (guest, tt)))));
      meets = refl;
    })
does m (Call.item_count t) =
    Does.item_count (record {
      lifetimes = ([], ([], tt));
      given = (lend m.words, (lend m.arena, (t, tt)));
      answer = counted_answer (item_count m.words m.arena t);
      left = (lend m.words, (lend m.arena, (t, tt)));
      meets = refl;
    })
does m (Call.write t buffer manner filter) =
    Does.write (record {
      lifetimes = ([], ([], ([], tt)));
      given = (lend_mut m.words, (lend m.arena, (t, (lend_mut buffer, (manner, (filter, tt))))));
      answer = written_answer (write_answer (rule_of (form_of manner)) filter m.words m.arena t (length buffer));
      left = (lend_mut m.words, (lend m.arena, (t, (lend_mut (image_after (rule_of (form_of manner)) filter m.words m.arena t buffer), (manner, (filter, tt))))));
      meets = (refl, (refl, refl));
    })

-- ---- the readers and the check

module _ (file : List ℕ) (start end : ℕ) where
  opens : Opening file start end (opened_answer (open_table file start end))
  opens = Opening.opening (record {
    lifetimes = ([], tt);
    given = (lend file, (start, (end, tt)));
    answer = opened_answer (open_table file start end);
    left = (lend file, (start, (end, tt)));
    meets = refl;
  })

  pub checks : (manner : ℕ) → Checking file start end manner (checked_answer (check_table (read_by manner) file start end))
  unfolding manner_named
  checks manner = Checking.checking (record {
    lifetimes = ([], tt);
    given = (lend file, (start, (end, (manner, tt))));
    answer = checked_answer (check_table (read_by manner) file start end);
    left = (lend file, (start, (end, (manner, tt))));
    meets = refl;
  })

  module _ (key : List ℕ) (manner : ℕ) where
    pub gets : Getting file start end key manner (looked_answer (lookup_value (read_by manner) file start end key))
    unfolding manner_named
    gets = Getting.getting (record {
      lifetimes = ([], ([], tt));
      given = (lend file, (start, (end, (lend key, (manner, tt)))));
      answer = looked_answer (lookup_value (read_by manner) file start end key);
      left = (lend file, (start, (end, (lend key, (manner, tt)))));
      meets = refl;
    })

    pub gets_table : GettingTable file start end key manner (looked_answer (lookup_table (read_by manner) file start end key))
    unfolding manner_named
    gets_table = GettingTable.getting_table (record {
      lifetimes = ([], ([], tt));
      given = (lend file, (start, (end, (lend key, (manner, tt)))));
      answer = looked_answer (lookup_table (read_by manner) file start end key);
      left = (lend file, (start, (end, (lend key, (manner, tt)))));
      meets = refl;
    })

  lists : (position : ℕ) (out : List ℕ)
      → Listing file start end position out (listed_answer (listed (key_at file start end position) (length out) position)) (written (key_at file start end position) out)
  lists position out = Listing.listing (record {
    lifetimes = ([], ([], tt));
    given = (lend file, (start, (end, (position, (lend_mut out, tt)))));
    answer = listed_answer (listed (key_at file start end position) (length out) position);
    left = (lend file, (start, (end, (position, (lend_mut (written (key_at file start end position) out), tt)))));
    meets = (refl, refl);
  })

  values : (position : ℕ) → ListingValue file start end position (valued_answer (value_at file start end position))
  values position = ListingValue.listing_value (record {
    lifetimes = ([], tt);
    given = (lend file, (start, (end, (position, tt))));
    answer = valued_answer (value_at file start end position);
    left = (lend file, (start, (end, (position, tt))));
    meets = refl;
  })

  children : (key : List ℕ) (position manner : ℕ) → ListingChild file start end key position manner (childed_answer (next_child (read_by manner) file start end key position))
  unfolding manner_named
  children key position manner = ListingChild.listing_child (record {
    lifetimes = ([], ([], tt));
    given = (lend file, (start, (end, (lend key, (position, (manner, tt))))));
    answer = childed_answer (next_child (read_by manner) file start end key position);
    left = (lend file, (start, (end, (lend key, (position, (manner, tt))))));
    meets = refl;
  })

layered : (owner : List ℕ) (ostart oend : ℕ) (district : List ℕ) (dstart dend : ℕ) (key : List ℕ) (omanner dmanner : ℕ)
    → GettingLayered owner ostart oend district dstart dend key omanner dmanner (layered_answer (layered_value (read_by omanner) (read_by dmanner) owner ostart oend district dstart dend key))
unfolding manner_named
layered owner ostart oend district dstart dend key omanner dmanner = GettingLayered.getting_layered (record {
  lifetimes = ([], ([], ([], tt)));
  given = (lend owner, (ostart, (oend, (lend district, (dstart, (dend, (lend key, (omanner, (dmanner, tt)))))))));
  answer = layered_answer (layered_value (read_by omanner) (read_by dmanner) owner ostart oend district dstart dend key);
  left = (lend owner, (ostart, (oend, (lend district, (dstart, (dend, (lend key, (omanner, (dmanner, tt)))))))));
  meets = refl;
})

-- ---- the header, texts, and the two calls without arguments

headed : (file : List ℕ) → ReadingHeader file (headed_answer (read_header file))
headed file = ReadingHeader.reading_header (record { lifetimes = ([], tt); given = (lend file, tt); answer = headed_answer (read_header file); left = (lend file, tt); meets = refl })

pub lays : (target : List ℕ) (big start end : ℕ) → LayingHeader target big start end (header_laid_number (header_laid (length target))) (with_header target (order_of big) start end)
lays target big start end = LayingHeader.laying_header (record {
  lifetimes = ([], tt);
  given = (lend_mut target, (big, (start, (end, tt))));
  answer = header_laid_number (header_laid (length target));
  left = (lend_mut (with_header target (order_of big) start end), (big, (start, (end, tt))));
  meets = (refl, refl);
})

judges : (text : List ℕ) → Judging text (first_bad text)
judges text = Judging.judging (record { lifetimes = ([], tt); given = (lend text, tt); answer = first_bad text; left = (lend text, tt); meets = refl })

numbers : Abi abi
numbers = Abi.abi (record { lifetimes = tt; given = tt; answer = abi; left = tt; meets = refl })

words : MemoryWords least_words
words = MemoryWords.memory_words (record { lifetimes = tt; given = tt; answer = least_words; left = tt; meets = refl })

pub every_call_answers : EveryCallAnswers
every_call_answers = record {
  starts = λ m. (_, _, starts m);
  calls = λ m call. (_, _, _, does m call);
  opens = λ file start end. (_, opens file start end);
  gets = λ file start end key manner. (_, gets file start end key manner);
  tables = λ file start end key manner. (_, gets_table file start end key manner);
  lists = λ file start end position out. (_, _, lists file start end position out);
  checks = λ file start end manner. (_, checks file start end manner);
}

pub every_newer_call_answers : EveryNewerCallAnswers
every_newer_call_answers = record {
  abi = (_, numbers);
  words = (_, words);
  headed = λ file. (_, headed file);
  lays = λ target big start end. (_, _, lays target big start end);
  judges = λ text. (_, judges text);
  layered = λ owner ostart oend district dstart dend key omanner dmanner. (_, layered owner ostart oend district dstart dend key omanner dmanner);
  values = λ file start end position. (_, values file start end position);
  children = λ file start end key position manner. (_, children file start end key position manner);
}
