-- Tables of items, as document 01 has them under 'The builder'.
use Rattle.std.specs.Prelude.{ℕ, zero, suc, ◌<◌, Bool, true, false, List, [], ◌∷◌, ◌++◌, eqb, length, get_or, drop}
use Rattle.words.specs.Choice.{pick}
use Rattle.layout.specs.Item.{no_item}
use Rattle.layout.specs.declared.kind.Kind.{Kind}

-- what an item holds: the bytes of a value, a table by its number, or children
pub data Content : Type 0 where
  bytes : List ℕ → Content
  nested : ℕ → Content
  container : Content

abbrev pub kind_of : Content → Kind
kind_of (Content.bytes value) = Kind.Value
kind_of (Content.nested t) = Kind.Table
kind_of Content.container = Kind.Container

abbrev pub is_container : Content → Bool
is_container (Content.bytes value) = false
is_container (Content.nested t) = false
is_container Content.container = true

-- an item: its table, its whole key, what it holds, and the item that it was put below (`no_item`: none)
pub record Entry : Type 0 where
  pub table : ℕ
  pub key : List ℕ
  pub content : Content
  pub above : ℕ

abbrev pub no_entry : Entry
no_entry = record { table = 0; key = []; content = Content.bytes []; above = no_item }

-- item i of the items of all tables, in order of creation
unfoldable pub entry_at : List Entry → ℕ → Entry
entry_at items i = get_or items i no_entry

-- ---- one table by itself: its items, by any indices, in order of creation, and what is known of each

pub record Rows : Type 0 where
  pub members : List ℕ
  pub key : ℕ → List ℕ
  pub content : ℕ → Content
  pub above : ℕ → ℕ

-- the tables, by number
abbrev pub State : Type 0
State = ℕ → Rows

-- how often x stands in a list; that it stands there
unfoldable pub times : ℕ → List ℕ → ℕ
times x [] = 0
times x (y ∷ l) = pick (eqb y x) (suc (times x l)) (times x l)

abbrev pub Has : List ℕ → ℕ → Type 0
Has l x = 0 < times x l

-- an item counts as a child only while the item above it is a container: replacing a container leaves its former children as roots
unfoldable pub is_child : Rows → ℕ → Bool
is_child table i = is_container (table.content (table.above i))

-- a child's fragment is its key less the parent's, else its whole key
unfoldable pub fragment_at : Rows → ℕ → List ℕ
fragment_at table i = pick (is_child table i) (drop (length (table.key (table.above i))) (table.key i)) (table.key i)

-- the items of table t among the first n
unfoldable pub members_below : List Entry → ℕ → ℕ → List ℕ
members_below items t zero = []
members_below items t (suc n) = pick (eqb (entry_at items n).table t) (members_below items t n ++ (n ∷ [])) (members_below items t n)

-- the tables of one list of the items of all
unfoldable pub rows_of : List Entry → State
rows_of items t = record {
  members = members_below items t (length items);
  key = λ i. (entry_at items i).key;
  content = λ i. (entry_at items i).content;
  above = λ i. (entry_at items i).above;
}
