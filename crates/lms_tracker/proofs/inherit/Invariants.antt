-- `follow::inherit` meets its contract: each turn of the loop puts the taps of one state's parent in that state's places.
use mathlib.Core.Path.{◌≡◌}
use Rattle.laws.specs.Turns.{turns}
use Rattle.channels.specs.Laws.{put_turn}
use Rattle.lms_tracker.specs.Tracker.{inherited_at}
use Rattle.lms_tracker.proofs.inherit.Given as goal

abbrev pub invariant-loop-s : goal.invariant-loop-s
invariant-loop-s l = (l.real ≡ turns (put_turn (λ z. z.real) (inherited_at (record { real = l.old_real; imaginary = l.old_imaginary }) l.parents)) l.s l.initial.real)
    × (l.imaginary ≡ turns (put_turn (λ z. z.imaginary) (inherited_at (record { real = l.old_real; imaginary = l.old_imaginary }) l.parents)) l.s l.initial.imaginary)
