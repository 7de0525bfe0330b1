-- What stands under a key of a table, said over the calls and their answers, not over the memory: what the last accepted insert under that key put there; else
-- a container, where an accepted insert went along it; else nothing.
use Rattle.std.specs.Prelude.{ℕ, Bool, false, ◌&&◌, ◌||◌, List, [], ◌∷◌, eqb, get_or}
use Rattle.words.specs.Choice.{pick}
use Rattle.key_order.specs.Compare.{same_bytes}
use Rattle.key_order.specs.Prefix.{prefixes}
use Rattle.model.specs.Table.{Content}
use Rattle.model.specs.Builder.{no_separator, separator_of}
use Rattle.demands.specs.Calls.{Call, Event, accepted}

pub data Held : Type 0 where
  nothing : Held
  holds : Content → Held

-- the first of two that is something
unfoldable pub or_else : Held → Held → Held
or_else Held.nothing other = other
or_else (Held.holds content) other = Held.holds content

-- ---- inserts

-- the call is an insert under key k of table t, and what it puts there
unfoldable pub puts : Call → ℕ → List ℕ → Held
puts (Call.new_table separator) t k = Held.nothing
puts (Call.insert_value u key value) t k = pick (eqb u t && same_bytes key k) (Held.holds (Content.bytes value)) Held.nothing
puts (Call.insert_table u key guest) t k = pick (eqb u t && same_bytes key k) (Held.holds (Content.nested guest)) Held.nothing
puts (Call.item_count u) t k = Held.nothing
puts (Call.write u buffer manner filter) t k = Held.nothing

-- k is one of some keys
unfoldable pub among : List (List ℕ) → List ℕ → Bool
among [] k = false
among (key ∷ keys) k = same_bytes key k || among keys k

-- the call is an insert into table t, and k one of the prefixes of its key that end at a separator, or the key itself
unfoldable pub passes : ℕ → Call → ℕ → List ℕ → Bool
passes separator (Call.new_table s) t k = false
passes separator (Call.insert_value u key value) t k = eqb u t && among (prefixes separator key) k
passes separator (Call.insert_table u key guest) t k = eqb u t && among (prefixes separator key) k
passes separator (Call.item_count u) t k = false
passes separator (Call.write u buffer manner filter) t k = false

-- ---- over a history, the latest event first

-- the separator of table t, as the call that made it said: what it answered, 0 and the table's number
unfoldable pub made_by : Call → List ℕ → ℕ → ℕ → ℕ
made_by (Call.new_table separator) said t before = pick (accepted said && eqb (get_or said 1 0) t) (separator_of separator) before
made_by (Call.insert_value u key value) said t before = before
made_by (Call.insert_table u key guest) said t before = before
made_by (Call.item_count u) said t before = before
made_by (Call.write u buffer manner filter) said t before = before

module _ (t : ℕ) where
  unfoldable pub separator : List Event → ℕ
  separator [] = no_separator
  separator (e ∷ earlier) = made_by e.call e.said t (separator earlier)

  module _ (k : List ℕ) where
    -- what the last accepted insert under key k put there
    unfoldable pub last : List Event → Held
    last [] = Held.nothing
    last (e ∷ earlier) = pick (accepted e.said) (or_else (puts e.call t k) (last earlier)) (last earlier)

    -- an accepted insert went along k
    unfoldable pub passed : List Event → Bool
    passed [] = false
    passed (e ∷ earlier) = accepted e.said && passes (separator earlier) e.call t k || passed earlier

    unfoldable pub held : List Event → Held
    held events = or_else (last events) (pick (passed events) (Held.holds Content.container) Held.nothing)
