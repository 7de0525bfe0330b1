-- MEMORY MEANS THE MODEL'S BUILDER. After every history the words and the arena, read as their layout says (`meaning`), are just what the model's calls built: the same tables in the
-- same order, each with its separator and whether it is placed; the same items in the same order, each with its table, key, content and parent; the same room, as much of it used.
use Rattle.std.specs.Prelude.{ℕ, ◌≡◌, List}
use Rattle.model.specs.Builder.{Builder}
use Rattle.build_memory.specs.Memory.{Memory}
use Rattle.build_memory.specs.Meaning.{meaning}
use Rattle.demands.specs.Calls.{Event, History}
use Rattle.demands.specs.Model.{built}

-- the builder that a memory means
abbrev pub meant : Memory → Builder
meant m = meaning m.words m.arena

abbrev pub MemoryMeansTheBuilder : Type 0
MemoryMeansTheBuilder = (room : ℕ) (events : List Event) (m : Memory) → History room events m → meant m ≡ built room events
