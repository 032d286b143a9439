-- `text::closing` meets its contract: the four fields one after the other.
use Rattle.std.proofs.Common.{rules}
use Rattle.recording.specs.TextLaws.{closing_put}
use Rattle.recording.proofs.text.closing.Goals as goal

pub returns-clause-same : goal.returns-clause-same
returns-clause-same c = closing_put _ _ _ _ _ _ _ (search rules) c.field.ensures.same c.field-2.ensures.same c.field-3.ensures.same (search (rules, c.field-4.ensures.same))
