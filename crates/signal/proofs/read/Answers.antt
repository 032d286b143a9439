-- `signal::read` meets its contract: the two ways out, by whether the points can be shown, are the definition's; a NaN for a sum, taken for infinity, shows as little.
use Rattle.std.proofs.Common.{sym, ◌∙◌, rules}
use Rattle.signal.proofs.Loops.{read_found, read_nothing}
use Rattle.signal.proofs.read.Goals as goal

pub write-sum-requires : goal.write-sum-requires
write-sum-requires c =
    let is_power_sum = c.power_sum-powers.ensures in
    let is_plain = c.are_plain-plain.ensures in
    record { start_bound = search rules; count_bound = search rules; count_in_bounds = search rules; plain_round = λ h. is_power_sum.plain (sym is_plain ∙ h) }

pub returns-then-is_usable : goal.returns-then-is_usable
returns-then-is_usable c =
    let is_least = c.min-count.ensures in
    let is_power_sum = c.power_sum-powers.ensures in
    let is_mean = c.mean-power.ensures in
    let is_usable = c.is_usable.ensures in
    let usable = c.if-is_usable.true in
    let is_sqrt = c.sqrt.ensures in
    let is_written = c.write-sum.ensures in
    read_found _ _ _ _ _ _ is_least is_power_sum.sum is_mean is_usable
    _ _ _ _ _ usable is_sqrt is_written c.mean.ensures c.sqrt-then-is_usable.ensures

pub returns-else-is_usable : goal.returns-else-is_usable
returns-else-is_usable c =
    let is_least = c.min-count.ensures in
    let is_power_sum = c.power_sum-powers.ensures in
    read_nothing _ _ _ _ _ _ is_least is_power_sum.sum c.mean-power.ensures c.is_usable.ensures c.if-is_usable.false
