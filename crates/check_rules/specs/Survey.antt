-- What the functions of the check say: rules 1 and 2 together; and the bits: a child has one exactly when the container that
-- it names lists it.
use Rattle.std.specs.Prelude.{ℕ, ◌*◌, ◌≤◌, ◌<◌, ◌≡◌, List, Bool, true, false, not, ◌&&◌, length, ltb, eqb}
use Rattle.words.specs.Choice.{pick}
use Rattle.layout.specs.declared.table.Table.{Table}
use Rattle.layout.specs.declared.item.Item.{Item}
use Rattle.layout.specs.Item.{item_at}
use Rattle.check_rules.specs.Bits.{has_bit, with_bit}
use Rattle.read_find.specs.Find.{Manner}
use Rattle.check_rules.specs.Rules.{key_lists, key_finds, value_opens, children_good, lists_it}

-- which of rules 1 and 2 an item breaks first; 0 for neither
unfoldable pub key_rule : Manner → List ℕ → Table → ℕ → ℕ
key_rule manner file t index = pick (key_lists file t index) (pick (key_finds manner file t index) 0 2) 1

-- an item that names the container and has no bit yet
unfoldable pub fresh_child : List ℕ → Table → ℕ → List ℕ → ℕ → Bool
fresh_child file t index bits child =
    ltb child t.count && (eqb (item_at file t child).parent index && not (has_bit bits child))

unfoldable pub after_child : Bool → List ℕ → ℕ → List ℕ
after_child fresh bits child = pick fresh (with_bit bits child) bits

-- rule 5, of an item that keeps rule 4
unfoldable pub five_or_shut : List ℕ → Table → ℕ → Item → Bool
five_or_shut file t index item = pick (value_opens file item) (children_good file t index item) true

-- no bit is set yet
pub record Blank (t : Table) (bits : List ℕ) : Type 0 where
  pub room : t.count ≤ 64 * length bits
  pub none : (c : ℕ) → has_bit bits c ≡ false

-- no child of a container has a bit yet
pub record Fresh (file : List ℕ) (t : Table) (index : ℕ) (bits : List ℕ) : Type 0 where
  pub room : t.count ≤ 64 * length bits
  pub new : (c : ℕ) → c < t.count → (item_at file t c).parent ≡ index → has_bit bits c ≡ false

-- a container's children have their bits as wanted, if all are good, and no other item's bit has changed
pub record Surveying (file : List ℕ) (t : Table) (index : ℕ) (wanted : ℕ → Bool) (before after : List ℕ) (well : Bool) : Type 0 where
  pub room : t.count ≤ 64 * length after
  pub others : (c : ℕ) → c < t.count → ((item_at file t c).parent ≡ index → ⊥) → has_bit after c ≡ has_bit before c
  pub own : well ≡ true → (c : ℕ) → c < t.count → (item_at file t c).parent ≡ index → has_bit after c ≡ wanted c

-- the containers before stop keep rule 5, and the bits of their children say whether they list them; stop is the count or breaks rule 5
pub record Survey (file : List ℕ) (t : Table) (stop : ℕ) (bits : List ℕ) : Type 0 where
  pub room : t.count ≤ 64 * length bits
  pub within : stop ≤ t.count
  pub sound : (i : ℕ) → i < stop → five_or_shut file t i (item_at file t i) ≡ true
  pub broken : stop < t.count → five_or_shut file t stop (item_at file t stop) ≡ false
  pub below : (c : ℕ) → c < t.count → (item_at file t c).parent < stop → has_bit bits c ≡ lists_it file c (item_at file t (item_at file t c).parent)
