-- `clock::tick::timed_warm` meets its contract: the two ways, by whether the windows are in, are the definition's, with the phase that `ranged` gives.
use Rattle.std.proofs.Common.{refl, rules}
use Rattle.clock.proofs.Ranged.{same_held}
use Rattle.clock.proofs.Laws.{warm_not, warm_due}
use Rattle.clock.proofs.tick.timed_warm.Goals as goal

pub returns-then-c-first : goal.returns-then-c-first
returns-then-c-first c =
    let taken = c.requires in
    let is_ranged = c.ranged-t.ensures.same in
    warm_not _ _ _ _ _ (same_held _ _ taken.phase is_ranged) (search rules) refl c.if-c-first.true

pub returns : goal.returns
returns c =
    let taken = c.requires in
    let is_ranged = c.ranged-t.ensures.same in
    warm_due _ _ _ _ _ (same_held _ _ taken.phase is_ranged) (search rules) refl _ c.if-c-first.false c.moved_on-place.ensures
