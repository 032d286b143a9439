-- `put` meets its contract: two flags, and three bytes where there is a dibit.
use Rattle.answer_row.specs.Laws.{put_silent, put_dibit}
use Rattle.answer_row.proofs.put.Goals as goal

pub returns-in_default : goal.returns-in_default
returns-in_default c = put_silent (record { flags = c.args.flags.now; bytes = c.args.bytes.now }) c.args.at c.args.answer c.args.locked c.in_default.is

pub returns : goal.returns
returns c = put_dibit (record { flags = c.args.flags.now; bytes = c.args.bytes.now }) c.args.at c.args.answer c.args.locked _ c.in-Some.is
