-- `circle::sine_cosine` meets its contract: the sine with its sign, and the cosine.
use Rattle.routines.proofs.CircleLaws.{abs_plain}
use Rattle.routines.proofs.CircleCode.{pair_made}
use Rattle.numbers.specs.Numbers.{sign_of}
use Rattle.std.proofs.Common.{ap, ◌∙◌}
use Rattle.routines.proofs.circle.sine_cosine.Goals as goal

pub size_pair-p-requires : goal.size_pair-p-requires
size_pair-p-requires c = ap sign_of c.abs.ensures ∙ abs_plain _

pub returns : goal.returns
returns c = pair_made c.args.x _ _ _ c.abs.ensures c.size_pair-p.ensures c.with_sign.ensures
