-- `signal::plain::size` meets its contract: clearing the sign's bit of a pattern gives the size.
use lib.Ieee.{binary64}
use Rattle.numbers.specs.Laws.{abs_bits, abs_number}
use Rattle.signal.proofs.plain.size.Goals as goal

pub float_to_bits-result : goal.float_to_bits-result
float_to_bits-result c = c.requires.number

pub float_from_bits-result : goal.float_from_bits-result
float_from_bits-result c = abs_number binary64 c.args.x c.requires.held c.requires.number

pub returns : goal.returns
returns c = abs_bits binary64 c.args.x c.requires.held c.requires.number
