-- `circle::cosine` meets its contract: the cosine of the angle's size.
use Rattle.routines.proofs.CircleLaws.{abs_plain}
use Rattle.routines.specs.Circle.{size_cosine, cosine_of}
use Rattle.numbers.specs.Numbers.{sign_of}
use Rattle.std.proofs.Common.{ap, ◌∙◌}
use Rattle.routines.proofs.circle.cosine.Goals as goal

pub size_cosine-requires : goal.size_cosine-requires
size_cosine-requires c = ap sign_of c.abs.ensures ∙ abs_plain _

pub returns : goal.returns
unfolding cosine_of
returns c = c.size_cosine.ensures ∙ ap size_cosine c.abs.ensures
