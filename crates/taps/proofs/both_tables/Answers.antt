-- `taps::both_tables` meets its contract: the literals are the taps' bit patterns, and what the formula makes of them.
use mathlib.Core.Path.{refl}
use lib.Ieee.{sub, mul, of_bits}
use Rattle.taps.specs.TapBits.{tap_bits, factor_bits}
use Rattle.taps.specs.Taps.{tap_table, differences_of, derivatives_of}
use Rattle.taps.proofs.Laws.{reversed, both_with}
use Rattle.taps.proofs.both_tables.Goals as goal

pub returns : goal.returns
unfolding tap_table derivatives_of differences_of tap_bits factor_bits sub mul of_bits
returns c = record { same = both_with _ refl; symmetric = reversed }
