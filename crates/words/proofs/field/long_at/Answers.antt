-- `words::field::long_at` meets its contract: the eight bytes are the field, byte by byte (`long_bytes`).
use native.Mathlib.Omega.{arith}
use Rattle.words.proofs.FieldLaws.{long_bytes}
use Rattle.words.proofs.field.long_at.Goals as goal

pub returns : goal.returns
returns c = omega (arith, long_bytes c.args.file.now c.args.at c.requires)
