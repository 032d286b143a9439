-- `room` meets its contract: the shorter of two rooms where both streams are asked for.
use Rattle.laws.specs.Branches.{cond_then, cond_no}
use mathlib.Core.Path.{refl}
use Rattle.receiver.proofs.streams.room.Goals as goal

pub returns-then-both : goal.returns-then-both
returns-then-both c = cond_then _ _ _ _ c.if-both.true c.min.ensures

pub returns-else-both : goal.returns-else-both
returns-else-both c = cond_no _ _ _ _ c.if-both.false refl
