-- `split` meets its contract: after k turns the first k points are apart.
use mathlib.Core.Path.{refl}
use lib.Ieee.{nan}
use Rattle.laws.specs.Places.{fill_start, fill_step, fill_end}
use borrow.Author.Rules.{rules}
use Rattle.drift_tracker.proofs.lanes.split.Goals as goal

pub loop-k-init : goal.loop-k-init
loop-k-init c = (fill_start _ _, fill_start _ _)

pub loop-k-preserved : goal.loop-k-preserved
loop-k-preserved c =
    let apart = c.loop-k.invariant in
    (fill_step _ _ _ _ _ refl apart.0, fill_step _ _ _ _ _ refl apart.1)

pub returns : goal.returns
returns c =
    let apart = c.loop-k.invariant in
    λ i. record {
      real = fill_end _ _ 256 _ _ nan apart.0 (search rules) (search rules) (search rules) i;
      imaginary = fill_end _ _ 256 _ _ nan apart.1 (search rules) (search rules) (search rules) i;
    }
