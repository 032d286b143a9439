-- `replay_sequence::run` is safe: each step leaves a detector that may be run.
use Rattle.lms_detector.specs.Ranges.{Ranged}
use Rattle.replay_sequence.proofs.run.Given as goal

abbrev pub invariant-loop : goal.invariant-loop
invariant-loop l = Ranged l.p l.real l.imaginary l.costs l.parents
