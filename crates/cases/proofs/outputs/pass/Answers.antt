-- `cases::outputs::pass` is safe: each sample leaves a resampler that may be run.
use Rattle.std.proofs.Common.{arith, rules}
use Rattle.cases.proofs.outputs.pass.Goals as goal

pub loop-k-init : goal.loop-k-init
loop-k-init c = (omega (arith, c.requires.index_value), c.requires.admitted)

pub resampled-p-requires : goal.resampled-p-requires
resampled-p-requires c =
    let a = c.loop-k.invariant.1.arm_high in record { admitted = c.loop-k.invariant.1; index_bound = omega (arith, c.loop-k-test, c.loop-k.invariant.0); arm_in_bounds = search (rules, a) }

pub loop-k-preserved : goal.loop-k-preserved
loop-k-preserved c =
    (omega (arith, c.resampled-p.ensures.kept.one_more, c.loop-k.invariant.0), c.resampled-p.ensures.kept.admitted)
