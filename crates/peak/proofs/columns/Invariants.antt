-- `peak::columns` meets its contract: the invariant is the first k columns filled.
use mathlib.Core.Path.{◌≡◌}
use Rattle.laws.specs.Places.{fill}
use Rattle.peak.specs.Columns.{column_of}
use Rattle.peak.proofs.columns.Given as goal

abbrev pub invariant-loop-k : goal.invariant-loop-k
invariant-loop-k l = l.peaks ≡ fill (column_of l.e) l.k l.initial.peaks
