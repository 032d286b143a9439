-- `replay_drift_detector::run` is safe: each step leaves a detector that may be run.
use Rattle.std.proofs.Common.{rules}
use Rattle.replay_drift_detector.proofs.run.Goals as goal

pub loop-init : goal.loop-init
loop-init c = c.requires

pub oldest-requires : goal.oldest-requires
oldest-requires c = c.loop.invariant.skeleton.place.write

pub step-d-requires : goal.step-d-requires
step-d-requires c =
    let kept = c.loop.invariant in
    let sizes = kept.memory in
    record {
      skeleton = kept.skeleton;
      memory = record { real_size = sizes.real_size; imaginary_size = sizes.imaginary_size; drift_size = sizes.drift_size; inverse_size = search rules };
    }

pub stored-records-requires : goal.stored-records-requires
stored-records-requires c = c.loop.invariant.skeleton.place.write

pub loop-preserved : goal.loop-preserved
loop-preserved c = c.step-d.ensures.1
