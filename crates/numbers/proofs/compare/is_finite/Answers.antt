-- `compare::is_finite` meets its contract: the library's test and this repository's say the same of each kind of value.
use Rattle.std.specs.Prelude.{◌≡◌, Float}
use Rattle.std.proofs.Common.{refl, ◌∙◌}
use Rattle.std.specs.Float.{nan, inf, fin, float_is_finite}
use Rattle.numbers.specs.Numbers.{is_finite}
use Rattle.numbers.proofs.compare.is_finite.Goals as goal

same : (x : Float) → float_is_finite x ≡ is_finite x
unfolding float_is_finite is_finite
same nan = refl
same (inf s) = refl
same (fin s m e) = refl

pub returns : goal.returns
returns g c = c.is_finite.ensures ∙ same (g.F.Width.number c.args.x)
