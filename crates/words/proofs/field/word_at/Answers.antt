-- `words::field::word_at` meets its contract: the four bytes are the field, byte by byte (`word_bytes`).
use native.Mathlib.Omega.{arith}
use Rattle.words.proofs.FieldLaws.{word_bytes}
use Rattle.words.proofs.field.word_at.Goals as goal

pub returns : goal.returns
returns c = omega (arith, word_bytes c.args.file.now c.args.at c.requires)
