-- `replay_drift::run` is safe and ends: each step leaves a tracker that may be run.
use Rattle.replay_drift.specs.Sized.{Sized}
use Rattle.replay_drift.proofs.run.Given as goal

abbrev pub invariant-loop : goal.invariant-loop
invariant-loop l = Sized l.real l.imaginary l.drift l.inverse
