-- What a lookup answers of an item whose kind and value pointer are known.
use Rattle.std.specs.Prelude.{Ok}
use mathlib.Core.Path.{◌≡◌}
use mathlib.Core.List.{List}
use Prim.Native.Nat.{ℕ, ◌%◌, ◌≤◌}
use lib.ListN.{length}
use borrow.Author.Tests.{eq-eqb}
use Rattle.words.specs.Choice.{pick}
use Rattle.layout.specs.declared.table.Table.{Table}
use Rattle.layout.specs.declared.item.Item.{Item}
use Rattle.layout.specs.Table.{open_table}
use Rattle.layout.proofs.AnswerLaws.{pointer_inside_is}
use Rattle.read.specs.Lookup.{at_pointer, at_nested, value_of, nested_of}

module _ (file : List ℕ) (item : Item) where
  -- a value whose pointer lies in the file, at a multiple of 8
  pub value_of_lem : item.kind ≡ 118 → item.from ≤ item.to → item.from % 8 ≡ 0 → item.to ≤ length file → value_of file item ≡ Ok (record { start = item.from; end = item.to })
  unfolding value_of at_pointer pick
  value_of_lem kind ordered even inside = rw (eq-eqb item.kind 118 kind, pointer_inside_is (length file) item.from item.to 8 ordered even inside)

  -- a nested table that opens
  pub nested_of_lem : (t : Table) → item.kind ≡ 72 → open_table file item.from item.to ≡ Ok t → nested_of file item ≡ Ok (record { start = item.from; end = item.to })
  unfolding nested_of at_nested pick
  nested_of_lem t kind opens = rw (eq-eqb item.kind 72 kind, opens)
