-- `hypotenuse::near_root` meets its contract: the patterns that it makes are those of floats.
use Rattle.routines.specs.HypotenuseCode.{half_bits}
use Rattle.routines.proofs.hypotenuse.near_root.Goals as goal

pub float_from_bits-r0 : goal.float_from_bits-r0
float_from_bits-r0 c = half_bits _
