-- `rounded` meets its contract: the product is exact, and adding and taking off 3 * 2^51 brings it to the nearest whole number.
use Rattle.decimator.proofs.QuantiserLaws.{quantises_within}
use Rattle.std.proofs.Common.{◌∙◌, to_z-of_z, w64, rules}
use lib.Ieee.Casts.{to_signed_in}
use lib.Ieee.{of_bits}
use Rattle.decimator.proofs.quantiser.rounded.Goals as goal

pub float_to_float-result : goal.float_to_float-result
float_to_float-result c = (quantises_within c.args.x (search rules) c.requires).number

pub float_to_int-result : goal.float_to_int-result
unfolding of_bits
float_to_int-result c = (quantises_within c.args.x (search rules) c.requires).whole

pub returns : goal.returns
unfolding of_bits
returns c = to_z-of_z {w = w64} (record { sfits = to_signed_in 63 _ }) ∙ (quantises_within c.args.x (search rules) c.requires).is
