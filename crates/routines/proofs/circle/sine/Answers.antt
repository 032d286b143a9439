-- `circle::sine` meets its contract: the sine of the angle's size, with the angle's sign.
use Rattle.routines.proofs.CircleLaws.{abs_plain}
use Rattle.routines.specs.Circle.{size_sine, with_sign, sine_of}
use lib.Ieee.{Float}
use Rattle.numbers.specs.Numbers.{sign_of}
use Rattle.std.proofs.Common.{ap, ◌∙◌}
use Rattle.routines.proofs.circle.sine.Goals as goal

pub size_sine-requires : goal.size_sine-requires
size_sine-requires c = ap sign_of c.abs.ensures ∙ abs_plain _

pub returns : goal.returns
unfolding sine_of
returns c = c.with_sign.ensures ∙ ap (λ (v : Float). with_sign (sign_of c.args.x) v) (c.size_sine.ensures ∙ ap size_sine c.abs.ensures)
