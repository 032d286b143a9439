-- `run` is safe: a block is numbers, and the front stays admitted.
use native.Mathlib.Omega.{arith}
use borrow.Author.Rules.{rules}
use Rattle.replay_front.proofs.run.Goals as goal

pub loop-init : goal.loop-init
loop-init c = c.requires

pub block-t-requires : goal.block-t-requires
block-t-requires c =
    let early = c.if-t-gt4503599627369000.false in
    record { admitted = c.loop.invariant; numbers = c.fill-s.ensures; samples_len = search rules; index_bound = omega (arith, early) }

pub loop-preserved : goal.loop-preserved
loop-preserved c = c.block-t.ensures
