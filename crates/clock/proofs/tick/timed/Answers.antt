-- `clock::tick::timed` meets its contract: the three ways (warm, cold and waiting, cold with 83 samples in) are the definition's.
use Rattle.std.proofs.Common.{◌∙◌}
use Rattle.clock.proofs.Laws.{timed_hot, timed_cold, timed_first}
use Rattle.clock.proofs.tick.timed.Goals as goal

pub timed_warm-requires : goal.timed_warm-requires
timed_warm-requires c = c.requires.warm_taken c.if-c.true

pub returns-then-c : goal.returns-then-c
returns-then-c c = c.timed_warm.ensures ∙ timed_hot _ c.if-c.true

pub returns-then-c-lt83 : goal.returns-then-c-lt83
returns-then-c-lt83 c = timed_cold _ c.if-c.false c.if-c-lt83.true

pub timed_warm-requires-2 : goal.timed_warm-requires-2
timed_warm-requires-2 c = c.requires.cold_taken c.if-c.false

pub returns : goal.returns
returns c = c.timed_warm-2.ensures ∙ timed_first _ c.if-c.false c.if-c-lt83.false
