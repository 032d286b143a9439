-- `follow::inherit` meets its contract: each turn of the loop puts the taps of one state's parent in that state's places.
use Rattle.laws.specs.Turns.{turns_start}
use Rattle.channels.specs.Laws.{put_step, real_end, imaginary_end}
use borrow.Author.Rules.{rules}
use Rattle.lms_tracker.proofs.inherit.Goals as goal

pub loop-s-init : goal.loop-s-init
loop-s-init c = (turns_start _ _, turns_start _ _)

pub taps_at-t-requires : goal.taps_at-t-requires
taps_at-t-requires c = c.requires.below c.loop-s.s (search rules)

pub loop-s-preserved : goal.loop-s-preserved
loop-s-preserved c =
    let laid = c.loop-s.invariant in
    let taps = c.taps_at-t.ensures in (
      put_step (λ z. z.real) _ _ _ _ _ _ taps c.put_taps.ensures.real_after laid.0,
      put_step (λ z. z.imaginary) _ _ _ _ _ _ taps c.put_taps.ensures.imaginary_after laid.1,
    )

pub returns : goal.returns
returns c = (
  real_end _ _ _ _ c.loop-s.invariant.0 (search rules) (search rules) (search rules),
  imaginary_end _ _ _ _ c.loop-s.invariant.1 (search rules) (search rules) (search rules),
)
