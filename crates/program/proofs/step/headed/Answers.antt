-- `program::step::headed` meets its contract.
use mathlib.Core.Path.{refl}
use native.Mathlib.Omega.{arith}
use Rattle.program.specs.declared.step.Stage.TheVariants.{Head}
use Rattle.program.specs.StepLaws.{head_on, head_off, refused_moves}
use Rattle.program.proofs.step.headed.Goals as goal

pub returns-then-head_is_good : goal.returns-then-head_is_good
returns-then-head_is_good c = record { same = head_on _ _ _ _ _ c.head_is_good.ensures c.if-head_is_good.true; near = omega arith; kept = refl; on = record { few = omega arith; less = omega arith } }

pub returns : goal.returns
returns c =
    record { same = head_off _ _ _ _ _ _ c.head_is_good.ensures c.if-head_is_good.false c.refused.ensures.same; near = c.refused.ensures.near; kept = c.refused.ensures.kept; on = refused_moves Head _ _ _ c.refused.result _ _ c.refused.ensures.same (omega arith) }
