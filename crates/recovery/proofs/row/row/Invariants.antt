-- `recovery::row::row` meets its contract: the invariant is the stage and its row after i values, and the sizes that go with it.
use mathlib.Core.Path.{◌≡◌}
use Rattle.peak.specs.Peak.{envelopes_of}
use Rattle.recovery.specs.Recovery.{state_of}
use Rattle.recovery.specs.Rows.{Lent, row_of}
use Rattle.recovery.proofs.row.row.Given as goal

abbrev pub invariant-loop-i : goal.invariant-loop-i
invariant-loop-i l = (l.sizes ≡ envelopes_of l.keeper_real l.keeper_imaginary)
    × (◌≡◌ {A = Lent}
    (record { state = state_of l.t.place l.keeper_real l.keeper_imaginary l.clock_real l.clock_imaginary l.weight_real l.weight_imaginary; symbols = record { real = l.symbol_real; imaginary = l.symbol_imaginary; reliable = l.reliable; count = l.t.count } })
    (row_of l.taps l.derivatives l.row_real l.row_imaginary l.i
    (record { state = state_of l.initial.t.place l.initial.keeper_real l.initial.keeper_imaginary l.initial.clock_real l.initial.clock_imaginary l.initial.weight_real l.initial.weight_imaginary; symbols = record { real = l.initial.symbol_real; imaginary = l.initial.symbol_imaginary; reliable = l.initial.reliable; count = l.initial.t.count } })))
