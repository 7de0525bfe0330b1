-- `text::utf8::step_len` meets its contract: an ASCII byte is one character (`step_one`), else the four bytes are the first of what is left
-- (`step_at`).
use Rattle.text.proofs.Utf8Laws.{step_at, step_one}
use Rattle.text.proofs.utf8.step_len.Goals as goal

pub returns-then-b0-le127 : goal.returns-then-b0-le127
returns-then-b0-le127 c = step_one c.args.s.now c.args.at c.requires c.if-b0-le127.true

pub returns : goal.returns
returns c = cc (step_at c.args.s.now c.args.at c.requires)
