-- The number of document 02 that each answer stands for; 0 for a success.
use Rattle.std.specs.Prelude.{ℕ, Result, Ok, Err}
use Rattle.layout.specs.declared.refusal.Refusal.{Refusal}
use Rattle.file_header.specs.declared.header.Header.{Header}
use Rattle.file_header.specs.declared.header.ByteOrder.{ByteOrder}
use Rattle.layout.specs.Refusal.{number}

-- a header: the byte order of the values, 0 little and 1 big; start and end of the root pointer; all 0 on a refusal
unfoldable pub headed_number : Result Header Refusal → ℕ
headed_number (Ok h) = 0
headed_number (Err why) = number why

abbrev pub order_number : ByteOrder → ℕ
order_number ByteOrder.Little = 0
order_number ByteOrder.Big = 1

unfoldable pub headed_order : Result Header Refusal → ℕ
headed_order (Ok h) = order_number h.order
headed_order (Err why) = 0

unfoldable pub headed_pointer : Result Header Refusal → ℕ × ℕ
headed_pointer (Ok h) = (h.start, h.end)
headed_pointer (Err why) = (0, 0)

unfoldable pub header_laid_number : Result (Unit {0}) Refusal → ℕ
header_laid_number (Ok _) = 0
header_laid_number (Err why) = number why
