-- `program::step::counted` meets its contract.
use mathlib.Core.Path.{refl}
use native.Mathlib.Omega.{arith}
use Rattle.program.specs.declared.step.Stage.TheVariants.{Count}
use Rattle.program.specs.StepLaws.{count_on, count_cut, count_moves, refused_moves, whole_room}
use borrow.Author.Rules.{rules}
use Rattle.program.proofs.step.counted.Goals as goal

pub count-n-requires : goal.count-n-requires
count-n-requires c = whole_room _ _ _ _ c.is_whole.ensures c.if-is_whole.true (omega arith)

pub returns-then-is_whole : goal.returns-then-is_whole
returns-then-is_whole c = record { same = count_on _ _ _ _ _ _ _ c.is_whole.ensures c.if-is_whole.true c.count-n.ensures c.stage_of-stage.ensures; near = omega arith; kept = refl; on = count_moves _ c.count-n.result _ (search rules) c.stage_of-stage.ensures }

pub returns : goal.returns
returns c =
    record { same = count_cut _ _ _ _ _ _ c.is_whole.ensures c.if-is_whole.false c.refused.ensures.same; near = c.refused.ensures.near; kept = c.refused.ensures.kept; on = refused_moves Count _ _ _ c.refused.result _ _ c.refused.ensures.same (omega arith) }
