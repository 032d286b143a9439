-- `quantised` meets its contract: within 512 what `rounded` gives, and else what `saturated` gives.
use Rattle.std.proofs.Common.{sym, ◌∙◌}
use Rattle.decimator.proofs.quantiser.quantised.Goals as goal

pub rounded-requires : goal.rounded-requires
rounded-requires c = sym c.is_within.ensures ∙ c.if-is_within.true

pub saturated-requires : goal.saturated-requires
saturated-requires c = sym c.is_within.ensures ∙ c.if-is_within.false
