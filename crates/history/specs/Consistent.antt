-- What holds of the tables and items of every builder that a history of calls reaches. It speaks of functions of an index, not of words
-- or lists.
use Rattle.std.specs.Prelude.{ℕ, suc, ◌+◌, ◌-◌, ◌≤◌, ◌<◌, ◌≡◌, Bool, true, ◌&&◌, List, [], ◌∷◌, length, take, get_or, ltb, eqb}
use Rattle.words.specs.Choice.{pick}
use Rattle.text.specs.Utf8.{is_utf8}
use Rattle.layout.specs.Kind.{table_kind, kind_known}
use Rattle.layout.specs.Limits.{longest_key, most_items, most_tables, deepest}
use Rattle.model.specs.Builder.{most}
use Rattle.history.specs.Items.{Item, Table}

-- every element is below 256
unfoldable pub is_bytes : List ℕ → Bool
is_bytes [] = true
is_bytes (b ∷ bytes) = ltb b 256 && is_bytes bytes

-- item `index`, below n, is of table t and has key k
pub record There (n : ℕ) (f : ℕ → Item) (t : ℕ) (k : List ℕ) : Type 0 where
  pub index : ℕ
  pub below : index < n
  pub of_table : (f index).table ≡ t
  pub has_key : (f index).key ≡ k

-- a parent (an index plus 1, or 0) above the first `from` bytes of key k: an item below n of the same table that has them as its key
pub record Above (n : ℕ) (f : ℕ → Item) (t : ℕ) (k : List ℕ) (parent from : ℕ) : Type 0 where
  pub within : from ≤ length k
  pub root : parent ≡ 0 → from ≡ 0
  pub holds : (j : ℕ) → parent ≡ suc j → (j < n) × ((f j).table ≡ t) × ((f j).key ≡ take from k)

-- the parent of item i: made before it, its key a proper prefix, and no longer proper prefix ends at a separator
pub record Parent (f : ℕ → Item) (i : ℕ) (x : Item) (sep : ℕ) : Type 0 where
  pub from : ℕ
  pub above : Above i f x.table x.key x.parent from
  pub proper : (j : ℕ) → x.parent ≡ suc j → from < length x.key
  pub gap : (e : ℕ) → from < e → e < length x.key → get_or x.key (e - 1) 0 ≡ sep → ⊥

-- what item x adds to the height of table t: h of the table it holds, where it is an item of t that holds one
unfoldable pub held_item : (ℕ → ℕ) → ℕ → Item → ℕ
held_item h t x = pick (eqb x.table t && eqb x.kind table_kind) (h x.guest) 0

-- the greatest height that table t holds, or 0, where h says the height of each table
unfoldable pub held_in : ℕ → (ℕ → Item) → (ℕ → ℕ) → ℕ → ℕ
held_in n f h t = most (λ (i : ℕ). held_item h t (f i)) n

-- T tables g 0 .. and n items f 0 .. in the order in which they were made
pub record Consistent (T n : ℕ) (g : ℕ → Table) (f : ℕ → Item) : Type 0 where
  pub tables : T ≤ most_tables
  pub count : n ≤ most_items
  -- a separator that is a byte is one of 1 to 127 (256 stands for none)
  pub seps : (t : ℕ) → t < T → (g t).sep < 256 → (g t).sep ≤ 127
  -- placed is 1, not placed is 0
  pub flags : (t : ℕ) → t < T → (g t).placed ≤ 1
  pub known : (i : ℕ) → i < n → (f i).table < T
  pub texts : (i : ℕ) → i < n → is_utf8 (f i).key ≡ true
  pub short : (i : ℕ) → i < n → length (f i).key ≤ longest_key
  pub key_bytes : (i : ℕ) → i < n → is_bytes (f i).key ≡ true
  pub kinds : (i : ℕ) → i < n → kind_known (f i).kind ≡ true
  pub distinct : (i j : ℕ) → i < n → j < n → (f i).table ≡ (f j).table → (f i).key ≡ (f j).key → i ≡ j
  pub parents : (i : ℕ) → i < n → Parent f i (f i) (g (f i).table).sep
  -- the containers of a key, named by its proper prefixes that end at a separator, are in the table
  pub closed : (i : ℕ) → i < n → (e : ℕ) → 1 ≤ e → e < length (f i).key → get_or (f i).key (e - 1) 0 ≡ (g (f i).table).sep → There n f (f i).table (take e (f i).key)
  -- a table that an item holds is placed, held once, and lower than its holder where that is placed too: so there is no cycle
  pub guests : (i : ℕ) → i < n → (f i).kind ≡ table_kind → ((f i).guest < T) × ((g (f i).guest).placed ≡ 1) × ((g (f i).guest).height < deepest)
  pub once : (i j : ℕ) → i < n → j < n → (f i).kind ≡ table_kind → (f j).kind ≡ table_kind → (f i).guest ≡ (f j).guest → i ≡ j
  pub ranks : (i : ℕ) → i < n → (f i).kind ≡ table_kind → (g (f i).table).placed ≡ 1 → (g (f i).guest).height < (g (f i).table).height
  -- the height in a placed table's record is one more than the greatest height that it holds
  pub exact : (t : ℕ) → t < T → (g t).placed ≡ 1 → (g t).height ≡ held_in n f (λ (x : ℕ). (g x).height) t + 1
