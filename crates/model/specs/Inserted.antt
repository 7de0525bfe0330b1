-- What an insert answers: of a new key nothing, else the kind that was replaced; or why it was refused.
use Rattle.std.specs.Prelude.{Result, Option}
use Rattle.layout.specs.declared.kind.Kind.{Kind}
use Rattle.layout.specs.declared.refusal.Refusal.{Refusal}

abbrev pub Inserted : Type 0
Inserted = Result (Option Kind) Refusal
