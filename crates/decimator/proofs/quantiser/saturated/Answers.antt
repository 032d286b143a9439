-- `saturated` meets its contract: the product is whole, and `to_i64` saturates it.
use Rattle.std.proofs.Common.{ap, ◌∙◌, to_z-of_z, w64, rules}
use lib.Ieee.{Float, binary64, of_bits, to_signed, mul}
use Rattle.decimator.proofs.QuantiserLaws.{quantises_beyond}
use Rattle.decimator.proofs.quantiser.saturated.Goals as goal

pub returns : goal.returns
returns c =
    to_z-of_z {w = w64} (record { sfits = c.to_i64.type_inv })
    ∙ c.to_i64.ensures
    ∙ ap (λ (x : Float). to_signed 63 (mul binary64 x (of_bits binary64 0x40e0_0000_0000_0000))) c.widen.ensures
    ∙ quantises_beyond c.args.x (search rules) c.requires
