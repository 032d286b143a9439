-- `write_table` meets its contract: the raw taps, divided by their sum, are the table of the rate.
use Rattle.std.proofs.Common.{refl}
use Rattle.resampler.specs.Taps.{table_written}
use Rattle.resampler.specs.Design.{omega_of}
use Rattle.resampler.proofs.design.write_table.Goals as goal

pub returns : goal.returns
unfolding omega_of
returns c =
    let write_raw = c.write_raw-sum in
    let narrow = c.narrow in
    table_written c.args.arm c.requires.le_arm c.args.rate (omega_of c.args.rate) c.args.table.now _ write_raw.result narrow.result _ c.requires.arm_in_bounds refl write_raw.ensures narrow.ensures c.divide.ensures
