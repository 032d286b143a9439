-- `run` meets its contract: each turn of its loop carries the run on by a row, and the row that ends the samples ends it.
use Prim.Native.Nat.{◌-◌, ◌/◌}
use mathlib.Core.Path.{◌≡◌}
use lib.ListN.{length}
use Rattle.run.specs.Run.{whole_now, Going}
use Rattle.run.proofs.run.Given as goal

abbrev pub invariant-loop-t : goal.invariant-loop-t
invariant-loop-t l = (length l.row.real ≡ 256) × (length l.row.imaginary ≡ 256) × (length l.memory ≡ length l.initial.memory)
    × Going l.conjugated l.table l.samples
    (whole_now l.initial.t l.initial.ring l.initial.planes l.initial.memory l.initial.ancestors l.initial.dibits l.initial.reliabilities l.initial.others l.initial.other_reliabilities)
    (whole_now l.t l.ring l.planes l.memory l.ancestors l.dibits l.reliabilities l.others l.other_reliabilities)

abbrev pub decreases-loop-t : goal.decreases-loop-t
decreases-loop-t l = length l.samples / 2 - l.t.from
