-- `signal::rows::divide_row` meets its contract: the invariant is the row after j turns, each with its two quotients.
use Rattle.std.proofs.Common.{rules}
use Rattle.laws.specs.Turns.{turns_start, turns_step, turns_end}
use Rattle.signal.proofs.rows.divide_row.Goals as goal

pub loop-j-init : goal.loop-j-init
loop-j-init c = turns_start _ _

pub quotient-requires : goal.quotient-requires
quotient-requires c = let p = c.requires in record { x_value = p.plain_run.real _ c.loop-j-test.true; plain_amplitude = p.plain_amplitude }

pub quotient-requires-in-loop-j : goal.quotient-requires-in-loop-j
quotient-requires-in-loop-j c = let p = c.requires in record { x_value = p.plain_run.imaginary _ c.loop-j-test.true; plain_amplitude = p.plain_amplitude }

pub loop-j-preserved : goal.loop-j-preserved
loop-j-preserved c = rw (c.quotient-in-loop-j.ensures.same, c.quotient.ensures.same) (turns_step _ _ _ _ c.loop-j.invariant)

pub returns : goal.returns
returns c = turns_end _ _ _ _ _ c.loop-j.invariant (search rules) (search rules)
