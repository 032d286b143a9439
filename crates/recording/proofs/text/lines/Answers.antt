-- `text::lines` meets its contract: each turn of the loop writes one line after those before it.
use Rattle.std.proofs.Common.{rules}
use Rattle.recording.specs.TextLaws.{lines_start, lines_step, lines_end}
use Rattle.recording.proofs.text.lines.Goals as goal

pub loop-i-init : goal.loop-i-init
loop-i-init c = (search rules, lines_start _ _ _ _)

pub loop-i-preserved : goal.loop-i-preserved
loop-i-preserved c = (search rules, lines_step _ _ _ _ _ _ c.loop-i.invariant.1 c.line-after.ensures.same)

pub returns : goal.returns
returns c = record { same = lines_end _ _ _ _ _ _ c.loop-i.invariant.1 (search rules) (search rules); near = search rules; kept = search rules }
