-- `replay_chain::run` is safe: each row leaves a chain that may be run.
use native.Mathlib.Omega.{arith}
use Rattle.replay_chain.proofs.run.Goals as goal

pub loop-init : goal.loop-init
loop-init c = c.requires

pub read_row-requires : goal.read_row-requires
read_row-requires c =
    omega (arith, c.min-made.ensures)

pub row-requires : goal.row-requires
row-requires c =
    record { ranged = c.loop.invariant; symbols_bound = omega (arith, c.if-r-gt9007199254740000.false); made_bound = omega (arith, c.min-made.ensures); before_bound = omega (arith, c.min-before.ensures) }

pub loop-preserved : goal.loop-preserved
loop-preserved c = c.row.ensures
