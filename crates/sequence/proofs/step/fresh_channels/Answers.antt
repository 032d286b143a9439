-- `fresh_channels` meets its contract: 256 turns, each storing the fresh tap of its place.
use lib.Ieee.{nan}
use Rattle.laws.specs.Places.{fill_start, fill_step, fill_end}
use Rattle.sequence.specs.Sequence.{fresh_tap, fresh_real}
use borrow.Author.Rules.{rules}
use Rattle.sequence.proofs.step.fresh_channels.Goals as goal

pub loop-i-init : goal.loop-i-init
loop-i-init c = fill_start _ _

pub loop-i-preserved : goal.loop-i-preserved
loop-i-preserved c = fill_step fresh_tap _ _ _ _ (rw c.fresh_tap.ensures) c.loop-i.invariant

pub returns : goal.returns
unfolding fresh_real
returns c = fill_end _ _ 256 _ _ nan c.loop-i.invariant (search rules) (search rules) (search rules)
