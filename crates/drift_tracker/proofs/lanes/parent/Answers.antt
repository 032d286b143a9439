-- `parent` meets its contract.
use mathlib.Core.Path.{refl}
use native.Mathlib.Omega.{arith}
use Rattle.drift_tracker.specs.Drift.{parent_of}
use Rattle.drift_tracker.proofs.lanes.parent.Goals as goal

pub overflow_cast-result : goal.overflow_cast-result
overflow_cast-result c = omega (arith, c.requires.states.below _ c.requires.s_of_64)

pub returns : goal.returns
unfolding parent_of
returns c = record { same = refl; near = c.requires.states.below _ c.requires.s_of_64 }
