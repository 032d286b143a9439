-- `deliver` meets its contract: after i turns the first i answers of the row are delivered.
use mathlib.Core.Path.{◌≡◌}
use Rattle.delivery.specs.Delivery.{Lent}
use Rattle.delivery.specs.Rows.{row_of}
use Rattle.delivery.proofs.deliver.Given as goal

abbrev pub invariant-loop-i : goal.invariant-loop-i
invariant-loop-i l =
    ◌≡◌ {A = Lent}
    (record { place = l.t.place; room = record { dibits = l.dibits; reliabilities = l.reliabilities; written = l.t.written } })
    (row_of (record { flags = l.flags; bytes = l.bytes }) l.others l.i (record { place = l.initial.t.place; room = record { dibits = l.initial.dibits; reliabilities = l.initial.reliabilities; written = l.initial.t.written } }))
