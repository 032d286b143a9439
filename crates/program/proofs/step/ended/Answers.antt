-- `program::step::ended` meets its contract.
use native.Mathlib.Omega.{arith}
use Rattle.program.specs.declared.step.Stage.TheVariants.{End}
use Rattle.program.specs.StepLaws.{end_closed, end_more, refused_moves}
use Rattle.program.proofs.step.ended.Goals as goal

pub returns-then-is_whole : goal.returns-then-is_whole
returns-then-is_whole c =
    record { same = end_closed _ _ _ _ _ _ _ c.is_whole.ensures c.if-is_whole.true c.closed-end.ensures.same; near = c.closed-end.ensures.near; kept = c.closed-end.ensures.kept; on = record { few = omega arith; less = omega arith } }

pub returns : goal.returns
returns c =
    record { same = end_more _ _ _ _ _ _ c.is_whole.ensures c.if-is_whole.false c.refused.ensures.same; near = omega (arith, c.refused.ensures.near); kept = c.refused.ensures.kept; on = refused_moves End _ _ _ c.refused.result _ _ c.refused.ensures.same (omega arith) }
