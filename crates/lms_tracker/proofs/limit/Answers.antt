-- `follow::limit` meets its contract: each turn of the loop limits one state's taps, and no other place moves.
use Rattle.laws.specs.Turns.{turns_start}
use Rattle.lms_tracker.specs.Laws.{limit_step, limit_end}
use borrow.Author.Rules.{rules}
use Rattle.lms_tracker.proofs.limit.Goals as goal

pub loop-s-init : goal.loop-s-init
loop-s-init c = (turns_start _ _, turns_start _ _)

pub loop-s-preserved : goal.loop-s-preserved
loop-s-preserved c =
    let limited = c.loop-s.invariant in
    (limit_step _ _ _ _ _ c.limit_taps.ensures.real_after limited.0, limit_step _ _ _ _ _ c.limit_taps.ensures.imaginary_after limited.1)

pub returns : goal.returns
returns c = record { real_after = limit_end _ _ _ _ c.loop-s.invariant.0 (search rules) (search rules) (search rules); imaginary_after = limit_end _ _ _ _ c.loop-s.invariant.1 (search rules) (search rules) (search rules) }
