-- `hypotenuse::is_infinite` meets its contract: equal to one of the two infinities.
use Rattle.routines.specs.HypotenuseCode.{infinite_up, infinite_down}
use lib.Ieee.{of_bits, div, neg}
use Rattle.routines.proofs.hypotenuse.is_infinite.Goals as goal

pub returns-then-x : goal.returns-then-x
unfolding of_bits div neg
returns-then-x c = infinite_up c.args.x c.if-x.true

pub returns-else-x : goal.returns-else-x
unfolding of_bits div neg
returns-else-x c = infinite_down c.args.x c.if-x.false
