-- `compare::is_negative` meets its contract: a NaN has no sign, and of every other value the pattern's highest bit is the sign.
use Rattle.std.specs.Prelude.{◌≡◌, not, ◌&&◌, T, nat_le, to_bits, Float}
use Rattle.std.proofs.Common.{refl}
use Rattle.std.specs.Float.{nan, inf, fin, Format}
use Rattle.std.specs.Float.Ieee.{fits, is_nan, top}
use Rattle.numbers.specs.Numbers.{sign_of}
use Rattle.numbers.specs.Laws.{sign_is}
use Rattle.numbers.proofs.compare.is_negative.Goals as goal

signed : (f : Format) (x : Float) → T (fits f x) → not (is_nan x) && nat_le (top f) (to_bits f x) ≡ sign_of x
unfolding is_nan
signed f nan h = unfold sign_of in refl
signed f (inf s) h = sign_is f (inf s) h tt
signed f (fin s m e) h = sign_is f (fin s m e) h tt

pub returns : goal.returns
returns g c =
    let w = g.F.Width in
    rw (c.is_nan.ensures, c.SIGN.ensures, g.met.F.Width.sign_is, c.pattern.ensures.value) (signed w.format (w.number c.args.x) c.pattern.ensures.held)
