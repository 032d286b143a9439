-- `take_both` meets its contract: it is the call for either stream, with a room for the second.
use mathlib.Core.Bool.{true≢false}
use Rattle.receiver.proofs.block.take_both.Goals as goal

pub take_any-requires : goal.take_any-requires
take_any-requires c = record { no_dibits = λ e. absurd (true≢false e); no_reliabilities = λ e. absurd (true≢false e) }
