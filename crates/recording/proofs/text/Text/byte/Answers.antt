-- `Text::byte` meets its contract: a byte has at most three digits, so the text fits into four places.
use Rattle.std.proofs.Common.{rules}
use Rattle.recording.specs.TextLaws.{byte_fits, byte_near, put_room}
use Rattle.recording.proofs.text.Text.byte.Goals as goal

pub ended-requires : goal.ended-requires
ended-requires c = byte_fits _ _ _ _ (search rules) c.requires

pub returns-clause-near : goal.returns-clause-near
returns-clause-near c = byte_near _ _ _ _ _ _ (search rules) c.ended.ensures.same

pub returns-clause-kept : goal.returns-clause-kept
returns-clause-kept c = put_room _ _ _ _ _ c.ended.ensures.same
