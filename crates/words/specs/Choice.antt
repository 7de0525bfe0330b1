-- A choice by a test: the one form in which definitions branch.
use Rattle.std.specs.Prelude.{Bool, true, false}

-- the first where the test holds, else the second. A row of refusals is a row of choices, in the document's order.
unfoldable pub pick : {A : Type 0} → Bool → A → A → A
pick true a b = a
pick false a b = b
