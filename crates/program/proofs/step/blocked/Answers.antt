-- `program::step::blocked` meets its contract.
use native.Mathlib.Omega.{arith}
use Rattle.program.specs.declared.step.Stage.TheVariants.{Samples}
use Rattle.program.specs.StepLaws.{samples_cut, samples_on, samples_refused, samples_moves, refused_moves, whole_room}
use borrow.Author.Rules.{rules}
use Rattle.program.proofs.step.blocked.Goals as goal

pub answered-requires : goal.answered-requires
answered-requires c =
    record { samples_bound = omega (arith, c.next_of-next.ensures); samples_in_bounds = whole_room _ _ _ _ c.is_whole.ensures c.if-is_whole.true (omega arith); samples_in_bounds_2 = omega (arith, c.next_of-next.ensures, c.requires) }

pub overflow_add-result : goal.overflow_add-result
overflow_add-result c =
    omega (arith, c.in-Ok.ensures.few, c.next_of-next.ensures, c.requires)

pub returns-in-Ok : goal.returns-in-Ok
returns-in-Ok c =
    record {
      same = samples_on _ _ _ _ _ _ _ c.next_of-next.ensures _ c.is_whole.ensures c.if-is_whole.true c.answered.result _ _ c.answered.ensures.same _ _ c.in-Ok.is c.stage_of.ensures;
      near = omega (arith, c.in-Ok.ensures.near, c.next_of-next.ensures);
      kept = c.answered.ensures.kept;
      on = samples_moves _ _ _ _ _ c.next_of-next.ensures c.requires.left_nonzero c.in-Ok.ensures.few c.stage_of.ensures;
    }

pub returns-in-Err : goal.returns-in-Err
returns-in-Err c = record {
  same = samples_refused _ _ _ _ _ _ _ c.next_of-next.ensures _ c.is_whole.ensures c.if-is_whole.true c.answered.result _ _ c.answered.ensures.same _ _ c.in-Err.is c.refused.ensures.same;
  near = omega (arith, c.refused.ensures.near);
  kept = search rules;
  on = refused_moves (Samples c.args.left) _ _ _ c.refused.result _ _ c.refused.ensures.same (omega arith);
}

pub returns : goal.returns
returns c =
    record { same = samples_cut _ _ _ _ _ _ _ c.next_of-next.ensures _ c.is_whole.ensures _ c.if-is_whole.false c.refused-2.ensures.same; near = omega (arith, c.refused-2.ensures.near); kept = c.refused-2.ensures.kept; on = refused_moves (Samples c.args.left) _ _ _ c.refused-2.result _ _ c.refused-2.ensures.same (omega arith) }
