-- `build_memory::rules::judge` meets its contract, rule by rule.
use Rattle.build_memory.proofs.MemoryLaws.{judge_short, judge_words, judge_room, judge_counts}
use Rattle.build_memory.proofs.rules.judge.Goals as goal

pub returns-then-words-lt-LEAST_WORDS : goal.returns-then-words-lt-LEAST_WORDS
returns-then-words-lt-LEAST_WORDS c = judge_short _ _ c.if-words-lt-LEAST_WORDS.true

pub returns-then-words : goal.returns-then-words
returns-then-words c = judge_words _ _ c.if-words-lt-LEAST_WORDS.false c.if-words.true

pub returns-then-words-arena : goal.returns-then-words-arena
returns-then-words-arena c = judge_room _ _ c.if-words-lt-LEAST_WORDS.false c.if-words.false c.if-words-arena.true

pub returns : goal.returns
returns c = judge_counts _ _ c.if-words-lt-LEAST_WORDS.false c.if-words.false c.if-words-arena.false
