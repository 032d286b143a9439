-- `filter::gather::arm_taps` meets its contract: the invariant is the first i taps filled.
use lib.Ieee.{nan}
use Rattle.laws.specs.Places.{fill_end}
use Rattle.filter.specs.Filter.{arm_taps_of}
use Rattle.filter.proofs.Laws.{arm_start, arm_next}
use borrow.Author.Rules.{rules}
use Rattle.filter.proofs.gather.arm_taps.Goals as goal

pub loop-i-init : goal.loop-i-init
loop-i-init c = arm_start _ _ c.args.taps.now _ c.first_tap.ensures

pub loop-i-preserved : goal.loop-i-preserved
loop-i-preserved c = arm_next _ _ _ _ _ (search rules) (search rules) c.loop-i.invariant

pub returns : goal.returns
unfolding arm_taps_of
returns c = fill_end _ _ _ _ _ nan c.loop-i.invariant (search rules) (search rules) (search rules)
