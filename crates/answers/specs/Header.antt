-- The header's answers as they cross to C, and the number of the interface.
use Rattle.std.specs.Prelude.{ℕ, eqb, Result}
use Rattle.layout.specs.declared.refusal.Refusal.{Refusal}
use Rattle.file_header.specs.declared.header.Header.{Header}
use Rattle.words.specs.Choice.{pick}
use Rattle.file_header.specs.declared.header.ByteOrder.{ByteOrder}
use Rattle.file_header.specs.Answer.{headed_number, headed_order, headed_pointer}
use Rattle.answers.specs.declared.header.GvdbHeader.{GvdbHeader}

abbrev pub abi : ℕ
abi = 7

-- 0 is little, every other number big
unfoldable pub order_of : ℕ → ByteOrder
order_of big = pick (eqb big 0) ByteOrder.Little ByteOrder.Big

unfoldable pub headed_answer : Result Header Refusal → GvdbHeader
headed_answer headed = record {
  number = headed_number headed;
  big = headed_order headed;
  start = (headed_pointer headed).0;
  end = (headed_pointer headed).1;
}
