-- A contract asks nothing of a caller: whatever the arguments, what the function requires holds. It is said of the contract itself, as the checker reads it in the source (`FUNCTION.Reads.Pre`).
use Rattle.std.specs.Prelude.{ℕ, List}
use contract.Lifetimes.{Lfts}
use borrow.Fn.Kinds.{ParamKind, Dens, In}

module _ {n : ℕ} (ps : List (ParamKind n)) (Pre : In n ps) where
  abbrev pub AsksNothing : Type 0
  AsksNothing = (κs : Lfts n) (a : Dens κs ps) → Pre κs a
