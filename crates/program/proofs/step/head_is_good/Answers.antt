-- `program::step::head_is_good` meets its contract.
use native.Mathlib.Omega.{arith}
use Rattle.program.specs.StepLaws.{head_good_lem, head_cut, whole_room}
use Rattle.program.proofs.step.head_is_good.Goals as goal

pub count-requires : goal.count-requires
count-requires c = whole_room _ _ _ _ c.is_whole.ensures c.if-is_whole.true (omega arith)

pub returns-then-is_whole : goal.returns-then-is_whole
returns-then-is_whole c = head_good_lem _ _ _ c.is_whole.ensures c.if-is_whole.true c.count.ensures

pub returns : goal.returns
returns c = head_cut _ _ c.is_whole.ensures c.if-is_whole.false
