-- `write_parts::put::lay_words` meets its contract. The invariant: the first b words are laid, and the rest is as it was.
use mathlib.Core.Path.{◌≡◌}
use Prim.Native.Nat.{◌+◌, ◌*◌}
use lib.ListN.{get_or}
use Rattle.words.specs.Store.{put_at}
use Rattle.image.specs.Plan.{words_of}
use Rattle.write_parts.proofs.put.lay_words.Given as goal

abbrev pub invariant-loop-b : goal.invariant-loop-b
invariant-loop-b l = l.image ≡ put_at l.initial.image l.at (words_of (λ k. get_or l.numbered (l.from + l.step * k) 0) l.b)
