-- `follow::learn` meets its contract: each turn of the loop puts one state's taps, moved from its parent's, in that state's places, and their power beside them.
use lib.Ieee.{nan}
use Rattle.laws.specs.Places.{fill_start, fill_end}
use Rattle.laws.specs.Turns.{turns_start}
use Rattle.channels.specs.Laws.{put_step, real_end, imaginary_end}
use Rattle.lms_tracker.specs.Laws.{norms_step, learnt_is}
use borrow.Author.Rules.{rules}
use Rattle.lms_tracker.proofs.learn.Goals as goal

pub loop-s-init : goal.loop-s-init
loop-s-init c = (turns_start _ _, turns_start _ _, fill_start _ _)

pub taps_at-requires : goal.taps_at-requires
taps_at-requires c =
    let parents = c.requires in
    let s = c.loop-s.s in
    parents.below s (search rules)

pub learnt-t-requires : goal.learnt-t-requires
learnt-t-requires c =
    let parents = c.requires in
    let s = c.loop-s.s in
    record { newest_of_four = search rules; prior_of_64 = parents.below s (search rules) }

pub loop-s-preserved : goal.loop-s-preserved
loop-s-preserved c =
    let laid = c.loop-s.invariant in
    let taps = c.taps_at.ensures in
    let error = c.subtracted.ensures in
    let moved = c.learnt-t.ensures in (
      put_step (λ z. z.real) _ _ _ _ _ _ (learnt_is _ _ _ _ _ _ _ _ taps error moved) c.put_taps.ensures.real_after laid.0,
      put_step (λ z. z.imaginary) _ _ _ _ _ _ (learnt_is _ _ _ _ _ _ _ _ taps error moved) c.put_taps.ensures.imaginary_after laid.1,
      norms_step _ _ _ _ _ _ (learnt_is _ _ _ _ _ _ _ _ taps error moved) c.norm_of.ensures laid.2,
    )

pub returns : goal.returns
returns c = (
  real_end _ _ _ _ c.loop-s.invariant.0 (search rules) (search rules) (search rules),
  imaginary_end _ _ _ _ c.loop-s.invariant.1 (search rules) (search rules) (search rules),
  fill_end _ _ 64 _ _ nan c.loop-s.invariant.2 (search rules) (search rules) (search rules),
)
