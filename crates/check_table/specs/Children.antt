-- CHILDREN OF A SOUND TABLE: what listing the children of a container answers there, position by position; and how a caller tells a bad container from a bad child in
-- any table.
use Rattle.std.specs.Prelude.{ℕ, ◌+◌, ◌-◌, ◌^◌, ◌≤◌, ◌<◌, ◌≡◌, ◌↔◌, List, ◌++◌, Ok, Err, Some}
use Rattle.words.specs.Store.{part}
use Rattle.layout.specs.declared.refusal.Refusal.TheVariants.{PastTheLast}
use Rattle.layout.specs.declared.kind.Kind.{Kind}
use Rattle.layout.specs.declared.table.Table.{Table}
use Rattle.layout.specs.declared.item.Item.{Item}
use Rattle.layout.specs.Kind.{kind_byte}
use Rattle.layout.specs.Table.{open_table}
use Rattle.layout.specs.Item.{item_at}
use Rattle.read.specs.Lookup.{lookup_in}
use Rattle.read_listing.specs.Children.{child_at, child_count, open_list, next_child}
use Rattle.check_rules.specs.Rules.{index_of}
use Rattle.read_find.specs.Find.{Manner}
use Rattle.check_table.specs.Sound.{SoundIn}

-- a table that opens and is sound, and a key that looks up its item i, which is a container
pub record Container (manner : Manner) (file : List ℕ) (start end : ℕ) (key : List ℕ) (t : Table) (i : ℕ) : Type 0 where
  pub opens : open_table file start end ≡ Ok t
  pub sound : SoundIn manner file t
  pub finds : index_of manner file t key ≡ Some i
  pub holds : (item_at file t i).kind ≡ kind_byte Kind.Container

-- the answer at a position is the child of that index, with its kind, its fragment and the next position
abbrev pub Answers : Manner → List ℕ → ℕ → ℕ → List ℕ → Table → ℕ → ℕ → Type 0
Answers manner file start end key t k child =
    next_child manner file start end key k
    ≡ Ok (record {
      index = child;
      kind = (item_at file t child).kind;
      start = (item_at file t child).key;
      end = (item_at file t child).key + (item_at file t child).size;
      next = record { at = k + 1 };
    })

-- each position below the count of the children answers the child that is listed there, and every position from there on is 15
abbrev pub ChildrenAnswer : Type 0
ChildrenAnswer =
    (manner : Manner) (file : List ℕ) (start end : ℕ) (key : List ℕ) (t : Table) (i : ℕ) → Container manner file start end key t i
    → (k : ℕ) → (k < child_count (item_at file t i) → Answers manner file start end key t k (child_at file (item_at file t i).from k))
    × (child_count (item_at file t i) ≤ k → next_child manner file start end key k ≡ Err PastTheLast)

-- the container's key and the child's fragment, joined, look up that very child
abbrev pub ChildrenFound : Type 0
ChildrenFound =
    (manner : Manner) (file : List ℕ) (start end : ℕ) (key : List ℕ) (t : Table) (i : ℕ) → Container manner file start end key t i
    → (k child : ℕ) → Answers manner file start end key t k child
    → index_of manner file t (key ++ part file (item_at file t child).key (item_at file t child).size) ≡ Some child

-- every item that names the container as its parent is answered, at exactly one position
abbrev pub ChildrenAll : Type 0
ChildrenAll =
    (manner : Manner) (file : List ℕ) (start end : ℕ) (key : List ℕ) (t : Table) (i : ℕ) → Container manner file start end key t i
    → (j : ℕ) → j < t.count → (item_at file t j).parent ≡ i
    → (k : ℕ) × (Answers manner file start end key t k j) × ((l : ℕ) → Answers manner file start end key t l j → l ≡ k)

-- in any table, sound or not: the greatest position is 15 exactly where the container itself is good, so a refusal at a lower one is then the child's
abbrev pub Probe : Type 0
Probe =
    (manner : Manner) (file : List ℕ) (start end : ℕ) (key : List ℕ)
    → (next_child manner file start end key (2 ^ 64 - 1) ≡ Err PastTheLast)
    ↔ ((t : Table) × (item : Item) × (open_table file start end ≡ Ok t) × (lookup_in manner file key t ≡ Ok item) × (open_list file item ≡ Ok tt))
