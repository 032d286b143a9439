-- `cases::detector::detect` is safe: each step leaves a detector that may be run.
use Rattle.lms_detector.specs.Ranges.{Ranged}
use Rattle.cases.proofs.detector.detect.Given as goal

abbrev pub invariant-loop : goal.invariant-loop
invariant-loop l = Ranged l.place l.real l.imaginary l.costs l.parents
