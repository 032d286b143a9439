-- `Text::ended` meets its contract: the kit's digits are those of `decimal_of`, and after them comes the character.
use Rattle.std.proofs.Common.{◌∙◌, arith}
use Rattle.recording.specs.Text.{ended_of}
use Rattle.recording.specs.TextLaws.{ended_last, ended_number, put_same, put_then, same_fits, spelled}
use Rattle.recording.proofs.text.Text.ended.Goals as goal

pub put-requires : goal.put-requires
put-requires c = same_fits _ _ _ _ (spelled _ _ _ c.decimal-k.ensures.len c.decimal-k.ensures.digits) (ended_number _ _ _ _ c.requires)

pub put-requires-2 : goal.put-requires-2
put-requires-2 c =
    let digits = c.put.ensures.same ∙ put_same _ _ _ (spelled _ _ _ c.decimal-k.ensures.len c.decimal-k.ensures.digits) in
    let room = ended_last _ _ _ _ _ _ digits c.requires in
    omega (arith, room)

pub returns-clause-same : goal.returns-clause-same
unfolding ended_of
returns-clause-same c =
    let digits = c.put.ensures.same ∙ put_same _ _ _ (spelled _ _ _ c.decimal-k.ensures.len c.decimal-k.ensures.digits) in
    put_then _ _ _ _ _ digits c.put-2.ensures.same
