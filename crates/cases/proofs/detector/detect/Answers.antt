-- `cases::detector::detect` is safe: each step leaves a detector that may be run.
use Rattle.cases.proofs.detector.detect.Goals as goal

pub loop-init : goal.loop-init
loop-init c = c.requires

pub oldest-requires : goal.oldest-requires
oldest-requires c = c.loop.invariant.skeleton.place.write

pub step-d-requires : goal.step-d-requires
step-d-requires c = c.loop.invariant

pub stored-records-requires : goal.stored-records-requires
stored-records-requires c = c.loop.invariant.skeleton.place.write

pub loop-preserved : goal.loop-preserved
loop-preserved c = c.step-d.ensures.1
