-- `run` meets its contract: after i turns the first i symbols of the row are decided, and the inverses are in the array of that turn.
use mathlib.Core.Path.{◌≡◌}
use lib.ListN.{length}
use Rattle.second.specs.Rows.{Lent, lent_of, held_of, row_of}
use Rattle.second.proofs.row.run.Given as goal

abbrev pub invariant-loop-i : goal.invariant-loop-i
invariant-loop-i l = (length l.even ≡ 8192)
    × (length l.odd ≡ 8192)
    × (◌≡◌ {A = Lent}
    (lent_of l.t l.real l.imaginary l.drift (held_of l.i l.even l.odd) l.costs l.parents l.flags l.bytes)
    (row_of l.symbol_real l.symbol_imaginary l.reliable l.i (lent_of l.initial.t l.initial.real l.initial.imaginary l.initial.drift (held_of 0 l.initial.even l.initial.odd) l.initial.costs l.initial.parents l.initial.flags l.initial.bytes)))
