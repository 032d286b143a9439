-- `clock::phase::ranged_below` meets its contract: from below 0 the loops raise the phase once.
use Rattle.clock.proofs.Ranged.{neg_in, same_low, held}
use Rattle.clock.proofs.phase.ranged_below.Goals as goal

pub ceiling-above-requires : goal.ceiling-above-requires
ceiling-above-requires c = neg_in _ c.requires.fits c.requires.below

pub returns : goal.returns
returns c = let same = same_low _ _ c.requires.fits c.requires.below c.ceiling-above.ensures in record { same = held _ _ _ _ same; few = same.few }
