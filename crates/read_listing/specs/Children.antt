-- The children of a container in stored order, from document 02, 'Children of one container': opening, 8, 12; of the container 13 where it is none, 2 or 3 of its value
-- pointer, whose alignment is 4, and 13 where its length is not divisible by 4; 15 past the last child; of the child 10, 13, then 2 or 9 of its fragment.
use Rattle.std.specs.Prelude.{ℕ, ◌+◌, ◌*◌, ◌-◌, ◌/◌, ◌%◌, List, length, leb, ltb, eqb, Result, Ok, Err}
use Rattle.layout.specs.declared.refusal.Refusal.{Refusal}
use Rattle.read_listing.specs.declared.children.Child.{Child}
use Rattle.words.specs.Choice.{pick}
use Rattle.words.specs.Field.{word_at}
use Rattle.text.specs.Utf8.{is_utf8, first_bad}
use Rattle.layout.specs.declared.refusal.Refusal.TheVariants.{FragmentNotUtf8, ParentOutside, OtherKind, PastTheLast}
use Rattle.layout.specs.declared.kind.Kind.{Kind}
use Rattle.layout.specs.declared.table.Table.{Table}
use Rattle.layout.specs.declared.item.Item.{Item}
use Rattle.layout.specs.Kind.{kind_byte, kind_known}
use Rattle.layout.specs.Pointer.{open_pointer}
use Rattle.layout.specs.Table.{open_table}
use Rattle.layout.specs.Item.{item_at}
use Rattle.read_chain.specs.Chain.{fragment_of}
use Rattle.read_find.specs.Find.{Manner}
use Rattle.read.specs.Lookup.{lookup_in}

-- the child indices of a container: a word each, from an offset on
unfoldable pub child_at : List ℕ → ℕ → ℕ → ℕ
child_at file from k = word_at file (from + 4 * k)

unfoldable pub child_count : Item → ℕ
child_count item = (item.to - item.from) / 4

-- whether a container's list opens: 13 where the item is none, 2 or 3 of its value pointer, 13 where its length is not divisible by 4
unfoldable pub whole_words : Result (Unit {0}) Refusal → Item → Result (Unit {0}) Refusal
whole_words (Ok _) item = pick (eqb ((item.to - item.from) % 4) 0) (Ok tt) (Err OtherKind)
whole_words (Err why) item = Err why

unfoldable pub open_list : List ℕ → Item → Result (Unit {0}) Refusal
open_list file item =
    pick (eqb item.kind (kind_byte Kind.Container))
    (whole_words (open_pointer (length file) item.from item.to 4) item)
    (Err OtherKind)

-- a child of which only the fragment is left to judge: 2, or 9 with the offset in it
unfoldable pub at_fragment : Result (Unit {0}) Refusal → List ℕ → ℕ → Item → ℕ → Result Child Refusal
at_fragment (Ok _) file index child at =
    pick (is_utf8 (fragment_of file child))
    (Ok (record { index = index; kind = child.kind; start = child.key; end = child.key + child.size; next = record { at = at + 1 } }))
    (Err (FragmentNotUtf8 (first_bad (fragment_of file child))))
at_fragment (Err why) file index child at = Err why

unfoldable pub child_named : List ℕ → ℕ → Item → ℕ → Result Child Refusal
child_named file index child at = at_fragment (open_pointer (length file) child.key (child.key + child.size) 1) file index child at

-- the child with an index, listed at a position: 10, 13, then its fragment
unfoldable pub child_of : List ℕ → Table → ℕ → ℕ → Result Child Refusal
child_of file t index at =
    pick (leb t.count index) (Err ParentOutside)
    (pick (kind_known (item_at file t index).kind) (child_named file index (item_at file t index) at) (Err OtherKind))

-- the child at a position of a container whose list was judged: 15 past the last
unfoldable pub child_from : Result (Unit {0}) Refusal → List ℕ → Table → Item → ℕ → Result Child Refusal
child_from (Ok _) file t item at = pick (ltb at (child_count item)) (child_of file t (child_at file item.from at) at) (Err PastTheLast)
child_from (Err why) file t item at = Err why

unfoldable pub child_of_sought : Result Item Refusal → List ℕ → Table → ℕ → Result Child Refusal
child_of_sought (Ok item) file t at = child_from (open_list file item) file t item at
child_of_sought (Err why) file t at = Err why

unfoldable pub child_in_opened : Manner → List ℕ → List ℕ → ℕ → Result Table Refusal → Result Child Refusal
child_in_opened manner file key at (Ok t) = child_of_sought (lookup_in manner file key t) file t at
child_in_opened manner file key at (Err why) = Err why

-- the child at a position of the container under a key, of the table at a pointer
unfoldable pub next_child : Manner → List ℕ → ℕ → ℕ → List ℕ → ℕ → Result Child Refusal
next_child manner file start end key at = child_in_opened manner file key at (open_table file start end)
