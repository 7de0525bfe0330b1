-- What each view says: the answer is the definition's, and what stands beside it is that part of the lent file.
use Rattle.std.specs.Prelude.{ℕ, ◌≡◌, List, length, Result}
use Rattle.layout.specs.declared.refusal.Refusal.{Refusal}
use Rattle.read_listing.specs.declared.listing.WrittenKey.{WrittenKey}
use Rattle.std.specs.Borrow.{Bor}
use Rattle.read_find.specs.declared.manner.Manner.{Manner}
use Rattle.read_find.specs.Find.{manner_of}
use Rattle.layout.specs.Table.{open_table}
use Rattle.read.specs.Lookup.{lookup_value, lookup_table}
use Rattle.read.specs.Layered.{marked, layered_value}
use Rattle.read_listing.specs.Listing.{value_at, key_at, listed, written}
use Rattle.read_listing.specs.Children.{next_child}
use Rattle.view.specs.declared.table.TableView.{TableView}
use Rattle.view.specs.declared.table.OpenedView.{OpenedView}
use Rattle.view.specs.declared.table.ValueView.{ValueView}
use Rattle.view.specs.declared.table.LayeredView.{LayeredView}
use Rattle.view.specs.declared.table.NestedView.{NestedView}
use Rattle.view.specs.declared.table.ListedView.{ListedView}
use Rattle.view.specs.declared.table.ChildView.{ChildView}
use Rattle.view_part.specs.Part.{ValueIn, of_source, ListedIn, ChildIn, OpenedIn, NestedIn, opened_pointer, pointer_start, pointer_end}

-- an opening of a file at a pointer, to be read in a manner
pub record OpenedOf (file : Bor (List ℕ)) (start end : ℕ) (manner : Manner) (r : OpenedView) : Type 0 where
  pub answered : r.answer ≡ open_table file.now start end
  pub viewed : OpenedIn file r.answer r.table.file
  pub starts : r.table.start ≡ opened_pointer r.answer start
  pub ends : r.table.end ≡ opened_pointer r.answer end
  pub manners : r.table.manner ≡ manner

-- a lookup of a value in the table t
pub record ValueOf (t : TableView) (key : List ℕ) (r : ValueView) : Type 0 where
  pub answered : r.answer ≡ lookup_value (manner_of t.manner) t.file.now t.start t.end key
  pub viewed : ValueIn t.file r.answer r.bytes

-- a lookup of a value in the owner's table, and in the district's under it
pub record LayeredOf (owner district : TableView) (key : List ℕ) (r : LayeredView) : Type 0 where
  pub answered : marked r.answer r.from ≡ layered_value (manner_of owner.manner) (manner_of district.manner) owner.file.now owner.start owner.end district.file.now district.start district.end key
  pub viewed : ValueIn (of_source r.from owner.file district.file) r.answer r.bytes

-- a lookup of a nested table in the table t, to be read in the same manner
pub record NestedOf (t : TableView) (key : List ℕ) (r : NestedView) : Type 0 where
  pub answered : r.answer ≡ lookup_table (manner_of t.manner) t.file.now t.start t.end key
  pub viewed : NestedIn t.file r.answer r.table.file
  pub starts : r.table.start ≡ pointer_start r.answer
  pub ends : r.table.end ≡ pointer_end r.answer
  pub manners : r.table.manner ≡ t.manner

-- a value listing of the table t from a position on
pub record ListedOf (t : TableView) (at : ℕ) (r : ListedView) : Type 0 where
  pub answered : r.answer ≡ value_at t.file.now t.start t.end at
  pub viewed : ListedIn t.file r.answer r.bytes

-- the child at a position of the container under a key, in the table t
pub record ChildOf (t : TableView) (key : List ℕ) (at : ℕ) (r : ChildView) : Type 0 where
  pub answered : r.answer ≡ next_child (manner_of t.manner) t.file.now t.start t.end key at
  pub viewed : ChildIn t.file r.answer r.fragment

-- a key listing of the table t at a position, into a lent buffer; `left` is what the buffer then holds
pub record KeyOf (t : TableView) (at : ℕ) (buffer : List ℕ) (r : Result WrittenKey Refusal) (left : List ℕ) : Type 0 where
  pub answered : r ≡ listed (key_at t.file.now t.start t.end at) (length buffer) at
  pub wrote : left ≡ written (key_at t.file.now t.start t.end at) buffer
