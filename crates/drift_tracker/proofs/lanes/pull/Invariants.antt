-- `pull` meets its contract: after t rows of l lanes the first 16 t + l numbers are moved.
use mathlib.Core.Path.{◌≡◌}
use mathlib.Core.List.{List}
use Prim.Native.Nat.{◌+◌, ◌*◌}
use lib.Ieee.{Float}
use Rattle.drift_tracker.specs.Layout.{moved_from}
use Rattle.drift_tracker.specs.Laws.{put_to}
use Rattle.drift_tracker.proofs.lanes.pull.Given as goal

abbrev pub invariant-loop-l : goal.invariant-loop-l
invariant-loop-l l = (given : List Float) → l.initial.all ≡ put_to (moved_from given l.gain l.from l.error l.d) l.g given (16 * l.t) → l.all ≡ put_to (moved_from given l.gain l.from l.error l.d) l.g given (16 * l.t + l.l)

abbrev pub invariant-loop-t : goal.invariant-loop-t
invariant-loop-t l = l.all ≡ put_to (moved_from l.initial.all l.gain l.from l.error l.d) l.g l.initial.all (16 * l.t)
