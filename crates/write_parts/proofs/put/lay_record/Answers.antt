-- `write_parts::put::lay_record` meets its contract: two halves of three words.
use mathlib.Core.Path.{ap}
use Prim.Native.Nat.{ℕ, ◌+◌}
use Rattle.write_parts.proofs.PutLaws.{put_record}
use Rattle.write_parts.proofs.put.lay_record.Goals as goal

pub returns : goal.returns
returns c =
    let args = c.args in
    put_record args.filter args.numbered.now args.image.now args.slot args.to args.at args.start c.slot_word-hash.ensures c.slot_word-parent.ensures
    c.slot_word-size.ensures c.slot_word-kind.ensures (ap (λ (n : ℕ). args.start + n) c.cover.ensures) c.requires.record_fits.size c.requires.record_fits.kind
    c.lay_three.ensures c.lay_three-2.ensures
