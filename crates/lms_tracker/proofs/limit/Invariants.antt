-- `follow::limit` meets its contract: each turn of the loop limits one state's taps, and no other place moves.
use mathlib.Core.Path.{◌≡◌}
use Rattle.laws.specs.Turns.{turns}
use Rattle.lms_tracker.specs.Laws.{limit_turn}
use Rattle.lms_tracker.proofs.limit.Given as goal

abbrev pub invariant-loop-s : goal.invariant-loop-s
invariant-loop-s l = (l.real ≡ turns (limit_turn l.norms) l.s l.initial.real) × (l.imaginary ≡ turns (limit_turn l.norms) l.s l.initial.imaginary)
