-- `fill` fills the block with numbers.
use lib.ListN.{length-set}
use Rattle.replay_front.specs.Sound.{sound_none, sound_more, sound_all}
use borrow.Author.Rules.{rules}
use Rattle.replay_front.proofs.fill.Goals as goal

pub loop-i-init : goal.loop-i-init
loop-i-init c = (search rules, sound_none _)

pub loop-i-preserved : goal.loop-i-preserved
loop-i-preserved c =
    let inv = c.loop-i.invariant in
    (simp length-set inv.0, sound_more _ _ _ (search rules) c.number.ensures inv.1)

pub returns : goal.returns
returns c = sound_all _ _ (record { each = λ k h. c.loop-i.invariant.1.each k (search (rules, h)) }) c.loop-i.invariant.0
