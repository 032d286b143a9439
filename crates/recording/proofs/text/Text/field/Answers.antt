-- `Text::field` meets its contract: the word, and after it the number with its line end.
use Rattle.std.proofs.Common.{rules}
use Rattle.recording.specs.TextLaws.{field_number, field_put, field_near, put_room}
use Rattle.recording.proofs.text.Text.field.Goals as goal

pub ended-requires : goal.ended-requires
ended-requires c = field_number _ _ _ _ _ _ (search rules) c.put.ensures.same c.requires

pub returns-clause-same : goal.returns-clause-same
returns-clause-same c = field_put _ _ _ _ _ c.put.ensures.same c.ended.ensures.same

pub returns-clause-near : goal.returns-clause-near
returns-clause-near c = field_near _ _ _ _ _ _ (search rules) (field_put _ _ _ _ _ c.put.ensures.same c.ended.ensures.same)

pub returns-clause-kept : goal.returns-clause-kept
returns-clause-kept c = put_room _ _ _ _ _ (field_put _ _ _ _ _ c.put.ensures.same c.ended.ensures.same)
