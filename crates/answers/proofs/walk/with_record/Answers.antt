-- `with_record` meets its contract: no reliabilities without a record, and each bit's own with one.
use mathlib.Core.Path.{sym, ap}
use Rattle.answers.specs.Laws.{answer_is}
use Rattle.answers.specs.Walk.{with_record_of}
use Rattle.answers.proofs.walk.with_record.Goals as goal

pub returns-in_default : goal.returns-in_default
returns-in_default c = sym (ap (with_record_of _) c.in_default.is)

pub returns : goal.returns
returns c = answer_is _ _ _ _ _ c.in-Some.is c.agreed.ensures c.agreed-2.ensures
