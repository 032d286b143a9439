-- `front` meets its contract: at each turn what is left to fill is what was to be filled, and it ends with the samples or with the row.
use Prim.Native.Nat.{◌+◌, ◌-◌, ◌/◌}
use mathlib.Core.Path.{◌≡◌}
use lib.ListN.{length}
use Rattle.front.specs.Front.{filled_of, front_now}
use Rattle.front.specs.Admitted.{Going}
use Rattle.front.proofs.front.Given as goal

abbrev pub invariant-loop-t : goal.invariant-loop-t
invariant-loop-t l = Going (length l.samples / 2 - l.from) l.initial.t.place l.t
    × (filled_of l.conjugated l.table l.samples (front_now l.t l.from l.ring_real l.ring_imaginary l.row_real l.row_imaginary)
    ≡ filled_of l.conjugated l.table l.samples (front_now l.initial.t l.from l.initial.ring_real l.initial.ring_imaginary l.initial.row_real l.initial.row_imaginary))

abbrev pub decreases-loop-t : goal.decreases-loop-t
decreases-loop-t l = length l.samples / 2 - (l.from + l.t.used)
