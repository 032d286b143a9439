-- `peak::columns` meets its contract: the invariant is the first k columns filled.
use mathlib.Core.Path.{ap}
use lib.ListN.{set}
use lib.Ieee.{Float, nan}
use Rattle.laws.specs.Places.{fill_start, fill_step, fill_end}
use Rattle.peak.specs.Columns.{columns_of}
use borrow.Author.Rules.{rules}
use Rattle.peak.proofs.columns.Goals as goal

pub loop-k-init : goal.loop-k-init
loop-k-init c = fill_start _ _

pub loop-k-preserved : goal.loop-k-preserved
loop-k-preserved c = fill_step _ _ _ _ _ (ap (λ (x : Float). set c.loop-k.peaks c.loop-k.k x) c.column.ensures) c.loop-k.invariant

pub returns : goal.returns
unfolding columns_of
returns c = fill_end _ c.loop-k.k 16 _ _ nan c.loop-k.invariant (search rules) (search rules) (search rules)
