-- `signal::write` meets its contract: either way gives the same; the quick one is taken where parts and amplitude are plain.
use Rattle.std.proofs.Common.{sym, ◌∙◌, rules}
use Rattle.signal.proofs.Windows.{common_plain, plain_amplitude}
use Rattle.signal.proofs.write.Goals as goal

pub write_plain-requires : goal.write_plain-requires
write_plain-requires c =
    let common = sym c.is_common.ensures ∙ c.if-is_common.true in
    record { start_bound = c.requires.start_bound; count_bound = c.requires.count_bound; count_in_bounds = search rules; plain_round = c.requires.plain_round (common_plain c.args.plain c.args.amplitude common); plain_amplitude = plain_amplitude c.args.plain c.args.amplitude common }

pub returns-then-is_common : goal.returns-then-is_common
returns-then-is_common c = c.write_plain.ensures

pub returns-else-is_common : goal.returns-else-is_common
returns-else-is_common c = c.write_points.ensures
