-- The document's number and values of each answer to a reader, as they cross to C.
use Rattle.std.specs.Prelude.{ℕ, Result, Ok, Err}
use Rattle.layout.specs.declared.refusal.Refusal.{Refusal}
use Rattle.layout.specs.declared.pointer.Pointer.{Pointer}
use Rattle.read_listing.specs.declared.listing.WrittenKey.{WrittenKey}
use Rattle.read_listing.specs.declared.children.Child.{Child}
use Rattle.layout.specs.declared.table.Table.{Table}
use Rattle.layout.specs.Answer.{opened_number}
use Rattle.read.specs.declared.layered.Layered.{Layered}
use Rattle.read_listing.specs.declared.listing.Valued.{Valued}
use Rattle.read.specs.Answer.{looked_number, looked_pointer, looked_at, source_number}
use Rattle.read_listing.specs.Answer.{listed_number, listed_key, listed_at, valued_number, valued_pointer, valued_item, childed_number, childed_kind, childed_pointer, childed_child, childed_at}
use Rattle.answers.specs.declared.reading.GvdbOpened.{GvdbOpened}
use Rattle.answers.specs.declared.reading.GvdbPlace.{GvdbPlace}
use Rattle.answers.specs.declared.reading.GvdbLayered.{GvdbLayered}
use Rattle.answers.specs.declared.reading.GvdbKey.{GvdbKey}
use Rattle.answers.specs.declared.reading.GvdbValue.{GvdbValue}
use Rattle.answers.specs.declared.reading.GvdbChild.{GvdbChild}

-- one count of a table that opened; 0 on a refusal
unfoldable pub opened_count : (Table → ℕ) → Result Table Refusal → ℕ
opened_count count (Ok t) = count t
opened_count count (Err why) = 0

unfoldable pub opened_answer : Result Table Refusal → GvdbOpened
opened_answer opened = record {
  number = opened_number opened;
  items = opened_count (λ t. t.count) opened;
  buckets = opened_count (λ t. t.buckets) opened;
  blooms = opened_count (λ t. t.blooms) opened;
}

unfoldable pub looked_answer : Result Pointer Refusal → GvdbPlace
looked_answer looked = record { number = looked_number looked; start = (looked_pointer looked).0; end = (looked_pointer looked).1; at = looked_at looked }

-- the table that answered is told on a refusal too
unfoldable pub layered_answer : Layered → GvdbLayered
layered_answer layered = record {
  number = looked_number layered.looked;
  from = source_number layered.from;
  start = (looked_pointer layered.looked).0;
  end = (looked_pointer layered.looked).1;
  at = looked_at layered.looked;
}

unfoldable pub listed_answer : Result WrittenKey Refusal → GvdbKey
listed_answer listed = record { number = listed_number listed; length = (listed_key listed).0; next = (listed_key listed).1; at = listed_at listed }

-- item and next position are told with 2 and 3 of the value's pointer too
unfoldable pub valued_answer : Valued → GvdbValue
valued_answer valued = record {
  number = valued_number valued;
  start = (valued_pointer valued).0;
  end = (valued_pointer valued).1;
  index = (valued_item valued).0;
  next = (valued_item valued).1;
}

unfoldable pub childed_answer : Result Child Refusal → GvdbChild
childed_answer childed = record {
  number = childed_number childed;
  kind = childed_kind childed;
  start = (childed_pointer childed).0;
  end = (childed_pointer childed).1;
  index = (childed_child childed).0;
  next = (childed_child childed).1;
  at = childed_at childed;
}
