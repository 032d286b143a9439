-- `replay_drift_detector::run` is safe: each step leaves a detector that may be run.
use Rattle.drift_detector.specs.Ranges.{Ranged}
use Rattle.replay_drift_detector.proofs.run.Given as goal

abbrev pub invariant-loop : goal.invariant-loop
invariant-loop l = Ranged l.p (record { channels = record { real = l.real; imaginary = l.imaginary }; drift = l.drift; inverse = l.inverse }) l.costs l.parents
