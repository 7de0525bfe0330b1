-- `words::field::half_at` meets its contract: the two bytes are the field, byte by byte (`half_bytes`).
use native.Mathlib.Omega.{arith}
use Rattle.words.proofs.FieldLaws.{half_bytes}
use Rattle.words.proofs.field.half_at.Goals as goal

pub returns : goal.returns
returns c = omega (arith, half_bytes c.args.file.now c.args.at c.requires)
