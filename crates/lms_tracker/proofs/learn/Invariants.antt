-- `follow::learn` meets its contract: each turn of the loop puts one state's taps, moved from its parent's, in that state's places, and their power beside them.
use mathlib.Core.Path.{◌≡◌}
use Rattle.laws.specs.Places.{fill}
use Rattle.laws.specs.Turns.{turns}
use Rattle.channels.specs.Laws.{put_turn}
use Rattle.lms_tracker.specs.Tracker.{learnt_at, norm_of}
use Rattle.lms_tracker.proofs.learn.Given as goal

abbrev pub invariant-loop-s : goal.invariant-loop-s
invariant-loop-s l = (l.real ≡ turns (put_turn (λ z. z.real) (learnt_at (record { real = l.old_real; imaginary = l.old_imaginary }) l.parents (record { real = l.prediction_real; imaginary = l.prediction_imaginary }) l.input)) l.s l.initial.real)
    × (l.imaginary ≡ turns (put_turn (λ z. z.imaginary) (learnt_at (record { real = l.old_real; imaginary = l.old_imaginary }) l.parents (record { real = l.prediction_real; imaginary = l.prediction_imaginary }) l.input)) l.s l.initial.imaginary)
    × (l.norms ≡ fill (λ k. norm_of (learnt_at (record { real = l.old_real; imaginary = l.old_imaginary }) l.parents (record { real = l.prediction_real; imaginary = l.prediction_imaginary }) l.input k)) l.s l.initial.norms)
