-- `decide` meets its contract: after i turns the first i symbols of the row are decided.
use mathlib.Core.Path.{◌≡◌}
use Rattle.decisions.specs.Decisions.{state_of}
use Rattle.decisions.specs.Rows.{Lent, row_of}
use Rattle.decisions.proofs.decide.Given as goal

abbrev pub invariant-loop-i : goal.invariant-loop-i
invariant-loop-i l =
    ◌≡◌ {A = Lent}
    (record { state = state_of l.t.place l.channel_real l.channel_imaginary l.costs l.parents l.view_real l.view_imaginary; records = l.t.records.slots; answers = record { flags = l.flags; bytes = l.bytes } })
    (row_of l.symbol_real l.symbol_imaginary l.reliable l.i (record { state = state_of l.initial.t.place l.initial.channel_real l.initial.channel_imaginary l.initial.costs l.initial.parents l.initial.view_real l.initial.view_imaginary; records = l.initial.t.records.slots; answers = record { flags = l.initial.flags; bytes = l.initial.bytes } }))
