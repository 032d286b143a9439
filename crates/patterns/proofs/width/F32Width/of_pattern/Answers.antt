-- `width::F32Width::of_pattern` meets its contract: up to the infinity's pattern lies no NaN's.
use Rattle.std.proofs.Common.{not, T, false, subst, zero-add}
use Rattle.std.specs.Float.{binary32}
use lib.Ieee.{nan_bits}
use Rattle.laws.specs.FloatPack.{no_nan_bits}
use Rattle.patterns.proofs.width.F32Width.of_pattern.Goals as goal

pub float_from_bits-result : goal.float_from_bits-result
float_from_bits-result c = subst (λ (b : _). T (not (nan_bits binary32 b))) (zero-add c.args.b) (no_nan_bits binary32 false c.args.b c.requires)
