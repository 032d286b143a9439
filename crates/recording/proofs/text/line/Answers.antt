-- `text::line` meets its contract: three numbers, each with the character that ends it.
use Rattle.std.proofs.Common.{rules}
use Rattle.recording.specs.TextLaws.{line_put}
use Rattle.recording.proofs.text.line.Goals as goal

pub returns-clause-same : goal.returns-clause-same
returns-clause-same c = line_put _ _ _ _ _ _ _ c.byte.ensures.same c.byte-2.ensures.same (search (rules, c.byte-3.ensures.same))
