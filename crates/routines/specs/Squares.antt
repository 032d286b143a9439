-- What is known where the values are not negative: narrowing and the root keep the sign, what is narrowed fits the format, and squares. Assumes nothing.
use Rattle.std.specs.Prelude.{◌≡◌, ℕ, zero, suc, ◌*◌, ◌<◌, ◌≤◌, Bool, true, false, not, T, ℤ, nat_lt, refl, Float}
use Rattle.std.proofs.Common.{true≢false, ltb→lt, nltb→le}
use Rattle.std.specs.Float.{nan, inf, fin, Format}
use Rattle.std.specs.Float.Ieee.{up, down, round, mul, fits}
use Rattle.std.specs.Float.Ieee.Fits.{round-fits, inf-fits}
use Rattle.std.specs.Float.Ieee.Exact.{HasValue}
use Rattle.laws.specs.FloatOrder.{nonneg}
use Rattle.laws.specs.FloatRounding.{signed, round_signed}
use Rattle.numbers.specs.Numbers.{convert}
use Rattle.numbers.specs.Root.{sqrt_of}
use Rattle.numbers.proofs.Faithful.{root_up}

pub square_is : (f : Format) (s : Bool) (m : ℕ) (e : ℤ) → mul f (fin s m e) (fin s m e) ≡ round f false (m * up e * (m * up e)) (down e * down e)
unfolding mul
square_is f true m e = refl
square_is f false m e = refl

pub nonneg_of : (x : Float) (a c : ℕ) → HasValue x false a c → T (nonneg x)
nonneg_of nan a c h = absurd h
nonneg_of (inf s) a c h = absurd h
nonneg_of (fin true m e) a c h = absurd (true≢false h.0)
nonneg_of (fin false m e) a c h = tt

pub nonneg_signed : (x : Float) → T (nonneg x) → T (signed false x)
nonneg_signed nan p = absurd p
nonneg_signed (inf s) p = absurd p
nonneg_signed (fin true m e) p = absurd p
nonneg_signed (fin false m e) p = tt

pub convert_up : (f : Format) (z : Float) → T (signed false z) → T (signed false (convert f z))
unfolding convert
convert_up f nan u = absurd u
convert_up f (inf true) u = absurd u
convert_up f (inf false) u = tt
convert_up f (fin true m e) u = absurd u
convert_up f (fin false m e) u = round_signed false f (m * up e) (down e)

pub convert_fits : (f : Format) (x : Float) → T (signed false x) → T (fits f (convert f x))
unfolding convert
convert_fits f nan u = absurd u
convert_fits f (inf s) u = inf-fits f s
convert_fits f (fin s m e) u = round-fits f s (m * up e) (down e)

pub sqrt_up : (f : Format) (s : Float) → T (nonneg s) → T (signed false (sqrt_of f s))
unfolding sqrt_of
sqrt_up f nan p = absurd p
sqrt_up f (inf t) p = absurd p
sqrt_up f (fin true m e) p = absurd p
sqrt_up f (fin false zero e) p = tt
sqrt_up f (fin false (suc m) e) p = root_up f (suc m * up e) (down e)

pub not_under : (a b : ℕ) → (b ≤ a → ⊥) → a < b
not_under a b h = by_test (nat_lt a b) (ltb→lt a b) (nltb→le a b)
  where
    by_test : (t : Bool) → (T t → a < b) → (T (not t) → b ≤ a) → a < b
    by_test true p q = p tt
    by_test false p q = absurd (h (q tt))
