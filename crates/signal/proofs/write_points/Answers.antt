-- `signal::write_points` meets its contract: the invariants are the sum and the floats after i points.
use Rattle.std.proofs.Common.{arith, length-set, rules}
use Rattle.laws.specs.Turns.{turns_start, turns_step, turns_end}
use Rattle.signal.proofs.Loops.{written_from}
use Rattle.signal.proofs.write_points.Goals as goal

pub loop-i-init : goal.loop-i-init
loop-i-init c = (turns_start _ _, turns_start _ _)

pub bounds-output-i-in-loop-i : goal.bounds-output-i-in-loop-i
bounds-output-i-in-loop-i c = simp length-set (omega arith)

pub loop-i-preserved : goal.loop-i-preserved
loop-i-preserved c =
    let is_widen2 = c.widen-in-loop-i.ensures in
    let is_widen = c.widen.ensures in
    let so_far = c.loop-i.invariant in (
      rw (c.missed-in-loop-i.ensures, c.missed.ensures, is_widen2, is_widen) (turns_step _ _ _ _ so_far.0),
      rw (c.narrow-in-loop-i.ensures, c.narrow.ensures, is_widen2, is_widen) (turns_step _ _ _ _ so_far.1),
    )

pub returns : goal.returns
returns c = written_from _ _ _ _ _ _ _ _ (search rules) (turns_end _ _ _ _ _ c.loop-i.invariant.0 (search rules) (search rules)) (turns_end _ _ _ _ _ c.loop-i.invariant.1 (search rules) (search rules))
