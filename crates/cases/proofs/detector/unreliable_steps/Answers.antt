-- `cases::detector::unreliable_steps` is safe: a fresh detector may be run.
use Rattle.sequence.specs.Skeleton.{fresh_skeleton}
use Rattle.lms_detector.specs.Detector.{fresh_channels}
use Rattle.lms_detector.specs.Theorems.{fresh_ranged}
use Rattle.cases.proofs.detector.unreliable_steps.Goals as goal

pub detect-t-requires : goal.detect-t-requires
unfolding fresh_skeleton fresh_channels
detect-t-requires c =
    rw (c.fresh-fresh.ensures, c.fresh_channels-real.ensures) fresh_ranged
