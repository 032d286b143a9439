-- The metric lies within 0 to 16 whatever the operands, NaN included, and it is a value of an f32 without a sign. Assumes nothing.
use Rattle.std.specs.Prelude.{◌≡◌, refl, ℕ, ◌+◌, ◌*◌, Bool, true, false, not, cond, ℤ, pos, T, Float}
use Rattle.std.proofs.Common.{arith}
use Rattle.std.specs.Float.{nan, inf, fin, Format, binary32}
use Rattle.std.specs.Float.Ieee.{of_bits, up, down, round, add, mul, le, lt, fits}
use Rattle.std.specs.Float.Ieee.Bits.{of_bits-fits}
use Rattle.std.specs.Float.Ieee.Fits.{add-fits, cond-fits}
use Rattle.laws.specs.FloatOrder.{→le, lt→le}
use Rattle.laws.specs.FloatRounding.{signed, round_signed}
use Rattle.laws.specs.FloatSums.{In}
use Rattle.complex.specs.declared.Complex32.{Complex32}
use Rattle.complex.specs.Complex.{difference_of, power_of}
use Rattle.arrivals.specs.Arrivals.{cap, capped_of, metric_of}

abbrev pub c0 : Float
c0 = fin false 0 (pos 0)

abbrev pub c16 : Float
c16 = fin false 1 (pos 4)

pub sixteen : cap ≡ c16
unfolding of_bits
sixteen = refl

pub nought : of_bits binary32 0 ≡ c0
unfolding of_bits
nought = refl

-- ---- a NaN, or no sign
abbrev pub free : Float → Bool
free nan = true
free (inf s) = not s
free (fin s m e) = not s

of_signed : (x : Float) → T (signed false x) → T (free x)
of_signed nan h = absurd h
of_signed (inf true) h = absurd h
of_signed (inf false) h = tt
of_signed (fin true m e) h = absurd h
of_signed (fin false m e) h = tt

square_free : (f : Format) (x : Float) → T (free (mul f x x))
unfolding mul
square_free f nan = tt
square_free f (inf true) = tt
square_free f (inf false) = tt
square_free f (fin true m e) = of_signed (round f false (m * up e * (m * up e)) (down e * down e)) (round_signed false f (m * up e * (m * up e)) (down e * down e))
square_free f (fin false m e) = of_signed (round f false (m * up e * (m * up e)) (down e * down e)) (round_signed false f (m * up e * (m * up e)) (down e * down e))

sum_free : (f : Format) (x y : Float) → T (free x) → T (free y) → T (free (add f x y))
unfolding add
sum_free f nan y p q = tt
sum_free f (inf true) y p q = absurd p
sum_free f (inf false) nan p q = tt
sum_free f (inf false) (inf true) p q = absurd q
sum_free f (inf false) (inf false) p q = tt
sum_free f (inf false) (fin t n d) p q = tt
sum_free f (fin true m e) y p q = absurd p
sum_free f (fin false m e) nan p q = tt
sum_free f (fin false m e) (inf true) p q = absurd q
sum_free f (fin false m e) (inf false) p q = tt
sum_free f (fin false m e) (fin true n d) p q = absurd q
sum_free f (fin false m e) (fin false n d) p q =
    of_signed (round f false (m * up e * down d + n * up d * down e) (down e * down d)) (round_signed false f (m * up e * down d + n * up d * down e) (down e * down d))

power_free : (z : Complex32) → T (free (power_of z))
power_free z = sum_free binary32 (mul binary32 z.real z.real) (mul binary32 z.imaginary z.imaginary) (square_free binary32 z.real) (square_free binary32 z.imaginary)

-- ---- capped
above_nought : (m : ℕ) (e : ℤ) → T (le c0 (fin false m e))
above_nought m e = →le c0 (fin false m e) tt tt (omega arith)

low : (z : Float) → T (free z) → T (le z c16) → T (le c0 z)
unfolding le
low nan h t = absurd t
low (inf true) h t = absurd h
low (inf false) h t = absurd t
low (fin true m e) h t = absurd h
low (fin false m e) h t = above_nought m e

capped_in : (z : Float) → T (free z) → In c0 c16 (capped_of z)
unfolding capped_of
capped_in z h = rw sixteen (go (lt z c16) (lt→le z c16) (low z h))
  where
    go : (b : Bool) → (T b → T (le z c16)) → (T (le z c16) → T (le c0 z)) → In c0 c16 (cond b z c16)
    go true k l = record { lower = l (k tt); upper = k tt }
    go false k l = unfold le in record { lower = tt; upper = tt }

capped_free : (z : Float) → T (free z) → T (free (capped_of z))
unfolding capped_of
capped_free z h = rw sixteen (go (lt z c16))
  where
    go : (b : Bool) → T (free (cond b z c16))
    go true = h
    go false = tt

capped_fits : (z : Float) → T (fits binary32 z) → T (fits binary32 (capped_of z))
unfolding capped_of
capped_fits z h = cond-fits binary32 (lt z cap) z cap h (of_bits-fits binary32 0x41800000)

-- ---- the metric
pub metric_in : (input prediction : Complex32) (reliable : Bool) → In c0 c16 (metric_of input prediction reliable)
unfolding metric_of
metric_in input prediction true = capped_in (power_of (difference_of input prediction)) (power_free (difference_of input prediction))
metric_in input prediction false = rw nought (unfold le in record { lower = tt; upper = tt })

pub metric_free : (input prediction : Complex32) (reliable : Bool) → T (free (metric_of input prediction reliable))
unfolding metric_of
metric_free input prediction true = capped_free (power_of (difference_of input prediction)) (power_free (difference_of input prediction))
metric_free input prediction false = rw nought tt

pub metric_fits : (input prediction : Complex32) (reliable : Bool) → T (fits binary32 (metric_of input prediction reliable))
unfolding metric_of
metric_fits input prediction reliable =
    cond-fits binary32 reliable (capped_of (power_of (difference_of input prediction))) (of_bits binary32 0) (capped_fits (power_of (difference_of input prediction)) (add-fits binary32 _ _)) (of_bits-fits binary32 0)
