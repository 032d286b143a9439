-- `program::step::set` meets its contract.
use mathlib.Core.Path.{refl}
use native.Mathlib.Omega.{arith}
use Rattle.program.specs.declared.step.Stage.TheVariants.{Settings}
use Rattle.program.specs.StepLaws.{settings_cut, table_cut, table_made, settings_on, settings_refused, refused_moves, whole_room}
use Rattle.program.proofs.step.set.Goals as goal

pub float-requires : goal.float-requires
float-requires c = whole_room _ _ _ _ c.is_whole.ensures c.if-is_whole.true (omega arith)

pub float-requires-then-is_whole : goal.float-requires-then-is_whole
float-requires-then-is_whole c = whole_room _ _ _ _ c.is_whole.ensures c.if-is_whole.true (omega arith)

pub returns-in-Ok : goal.returns-in-Ok
returns-in-Ok c =
    record {
      same = settings_on _ _ _ c.is_whole.ensures c.if-is_whole.true c.set_up.result _ _ _ c.float.ensures c.float-then-is_whole.ensures c.set_up.ensures _ _ _ _ c.in-Ok.is;
      made = table_made _ _ _ c.is_whole.ensures c.if-is_whole.true c.set_up.result _ _ _ c.float.ensures c.float-then-is_whole.ensures c.set_up.ensures;
      near = omega arith;
      kept = refl;
      on = record { few = omega arith; less = omega arith };
    }

pub returns-in-Err : goal.returns-in-Err
returns-in-Err c =
    record {
      same = settings_refused _ _ _ c.is_whole.ensures c.if-is_whole.true c.set_up.result _ _ _ c.float.ensures c.float-then-is_whole.ensures c.set_up.ensures _ _ _ _ _
          c.in-Err.is c.refused.ensures.same;
      made = table_made _ _ _ c.is_whole.ensures c.if-is_whole.true c.set_up.result _ _ _ c.float.ensures c.float-then-is_whole.ensures c.set_up.ensures;
      near = c.refused.ensures.near;
      kept = c.refused.ensures.kept;
      on = refused_moves Settings _ _ _ c.refused.result _ _ c.refused.ensures.same (omega arith);
    }

pub returns : goal.returns
returns c =
    record { same = settings_cut _ _ _ c.is_whole.ensures _ _ _ _ c.if-is_whole.false c.refused-2.ensures.same; made = table_cut _ _ _ c.is_whole.ensures c.if-is_whole.false; near = c.refused-2.ensures.near; kept = c.refused-2.ensures.kept; on = refused_moves Settings _ _ _ c.refused-2.result _ _ c.refused-2.ensures.same (omega arith) }
