-- `text::refused` meets its contract: the field with the refusal's number.
use Rattle.std.proofs.Common.{rules}
use Rattle.recording.specs.Text.{refused_of}
use Rattle.recording.proofs.text.refused.Goals as goal

pub returns-clause-same : goal.returns-clause-same
unfolding refused_of
returns-clause-same c = search (rules, c.field.ensures.same)
