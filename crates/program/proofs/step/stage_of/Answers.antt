-- `program::step::stage_of` meets its contract.
use native.Mathlib.Omega.{arith}
use Rattle.program.specs.StepLaws.{stage_some, stage_none}
use Rattle.program.proofs.step.stage_of.Goals as goal

pub returns-then-left-gt0 : goal.returns-then-left-gt0
returns-then-left-gt0 c = stage_some _ c.if-left-gt0.true

pub returns : goal.returns
returns c = stage_none c.args.left (omega (arith, c.if-left-gt0.false))
