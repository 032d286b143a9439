-- `replay_program::play` is safe and ends: each turn is nearer to the last stage.
use mathlib.Core.Path.{refl}
use native.Mathlib.Omega.{arith}
use lib.ListN.{length-replicate}
use lib.Ieee.{Float, binary32, of_bits}
use Rattle.program.specs.StepLaws.{started_fits, still_waits, moves_fit}
use borrow.Author.Rules.{rules}
use Rattle.replay_program.proofs.play.Goals as goal

pub loop-table-init : goal.loop-table-init
loop-table-init c = (refl, started_fits _ c.started-p.ensures, search rules, length-replicate {A = Float} 16384 (of_bits binary32 0))

pub turned-q-requires : goal.turned-q-requires
turned-q-requires c =
    record { stage_nonzero = still_waits _ _ _ c.loop-table.invariant.0 c.wanted.ensures (omega (arith, c.loop-table-test.true)); stage_bound = c.loop-table.invariant.1 }

pub loop-table-smaller : goal.loop-table-smaller
loop-table-smaller c = c.turned-q.ensures.less

pub loop-table-preserved : goal.loop-table-preserved
loop-table-preserved c =
    (refl, moves_fit _ _ _ _ c.turned-q.ensures c.loop-table.invariant.1, omega (arith, c.min.ensures, c.loop-table.invariant.2), search rules)
