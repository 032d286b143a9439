-- `run` is safe: the counter stays below d and the resampler admitted.
use Rattle.std.proofs.Common.{arith}
use Rattle.replay_resampler.proofs.run.Goals as goal

pub loop-init : goal.loop-init
loop-init c = (c.requires.counter_lt_decimation, c.requires.admitted)

pub stepped-n-requires : goal.stepped-n-requires
stepped-n-requires c = c.loop.invariant.0

pub taken-p-requires : goal.taken-p-requires
taken-p-requires c = record { admitted = c.loop.invariant.1; index_bound = omega (arith, c.if-r-ge-MOST.false) }

pub loop-preserved : goal.loop-preserved
loop-preserved c =
    let e = c.stepped-n.ensures.kept in
    (rw e.by e.early, c.taken-p.ensures.admitted)
