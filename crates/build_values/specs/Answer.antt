-- The number of document 01 that each answer stands for, 0 for a success, and the values that it carries.
use Rattle.std.specs.Prelude.{ℕ, Ok, Err, Some, None}
use Rattle.model.specs.Inserted.{Inserted}
use Rattle.layout.specs.Refusal.{number, bad_at}
use Rattle.layout.specs.Kind.{kind_byte}

unfoldable pub inserted_number : Inserted → ℕ
inserted_number (Ok _) = 0
inserted_number (Err why) = number why

-- where the given key is bad, told with 8
unfoldable pub inserted_at : Inserted → ℕ
inserted_at (Ok _) = 0
inserted_at (Err why) = bad_at why

-- the byte of the kind that was replaced, 0 where none was
unfoldable pub inserted_kind : Inserted → ℕ
inserted_kind (Ok None) = 0
inserted_kind (Ok (Some kind)) = kind_byte kind
inserted_kind (Err why) = 0
