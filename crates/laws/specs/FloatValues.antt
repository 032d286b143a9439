-- A value of the format rounds to itself, and a rounding does not pass a value of the format. Assumes nothing.
use Rattle.std.specs.Prelude.{◌≡◌, refl, ℕ, suc, ◌+◌, ◌-◌, ◌*◌, ◌%◌, ◌^◌, ◌≤◌, ◌<◌, Bool, true, false, not, ℤ, T, leb, Float}
use Rattle.std.proofs.Common.{sym, ap, ◌∙◌, subst, lt_of_lt_of_le, arith, pow_pos, pow_mono, shl_lt}
use Rattle.std.specs.Float.{nan, inf, fin, Format, binary32, binary64}
use Rattle.std.specs.Float.Ieee.{prec, emax, low, hid, ones, top, up, down, round, le, is_nan, fits, to_bits}
use Rattle.std.specs.Float.Ieee.Fits.{down_pos, round-fits}
use Rattle.std.specs.Float.Ieee.Bits.{of_bits-to_bits}
use Rattle.std.specs.Float.Ieee.Exact.{HasValue, round_exact}
use Rattle.std.specs.Float.Ieee.Order.{round_mono}
use Rattle.std.specs.Float.Ieee.Scale.{round_same}
use Rattle.std.specs.Float.Ieee.Positive.{num, den, den_pos}
use Rattle.laws.specs.FloatOrder.{nonneg}
use Rattle.laws.specs.FloatParts.{field, digits_of, power_of, finite_field, float_value, digits_lt, bits_inf}
use Rattle.laws.specs.FloatPack.{value_unique}

-- ---- a value of the format rounds to itself
top_power : (f : Format) (x : ℕ) → x < ones f → prec f + (x - 1) ≤ low f + suc (emax f)
top_power binary32 x h = omega arith
top_power binary64 x h = omega arith

pub no_inf : (f : Format) (s : Bool) (m : ℕ) (e : ℤ) → T (fits f (fin s m e)) → to_bits f (fin s m e) % top f ≡ ones f * hid f → ⊥
no_inf f s m e F h = differ (fin s m e) (leb (top f) (to_bits f (fin s m e))) (sym (of_bits-to_bits f (fin s m e) F) ∙ bits_inf f (to_bits f (fin s m e)) h) tt
  where
    IsFin : Float → Type 0
    IsFin nan = ⊥
    IsFin (inf s) = ⊥
    IsFin (fin s m e) = Unit

    differ : (x : Float) (t : Bool) → x ≡ inf t → IsFin x → ⊥
    differ x t p h = subst IsFin p h

pub no_nan_fin : (s : Bool) (m : ℕ) (e : ℤ) → T (not (is_nan (fin s m e)))
unfolding is_nan
no_nan_fin s m e = tt

pub round_id : (f : Format) (s : Bool) (m : ℕ) (e : ℤ) → T (fits f (fin s m e)) → round f s (m * up e) (down e) ≡ fin s m e
round_id f s m e F =
    let x = fin s m e in
    let b = to_bits f x in
    let d = digits_of f b in
    let p = power_of f b in
    let l = finite_field f x F (no_nan_fin s m e) (no_inf f s m e F) in
    let v = float_value f x F l in
    let t = leb (top f) b in
    let r : HasValue (round f t (d * 2 ^ p) (2 ^ low f)) t (d * 2 ^ p) (2 ^ low f) =
    round_exact f t (d * 2 ^ p) (2 ^ low f) d p (pow_pos (low f)) (digits_lt f b) (lt_of_lt_of_le (shl_lt (prec f) p (digits_lt f b)) (pow_mono (top_power f (field f b) l))) refl in
    round_same f s (m * up e) (down e) (d * 2 ^ p) (2 ^ low f) (down_pos e) (pow_pos (low f)) v.1
    ∙ ap (λ (b : Bool). round f b (d * 2 ^ p) (2 ^ low f)) v.0
    ∙ value_unique f (round f t (d * 2 ^ p) (2 ^ low f)) x t (d * 2 ^ p) (round-fits f t (d * 2 ^ p) (2 ^ low f)) F r v

-- ---- a rounding does not pass a value of the format
pub id_nonneg : (f : Format) (v : Float) → T (nonneg v) → T (fits f v) → round f false (num v) (den v) ≡ v
id_nonneg f nan p F = absurd p
id_nonneg f (inf s) p F = absurd p
id_nonneg f (fin true m e) p F = absurd p
id_nonneg f (fin false m e) p F = round_id f false m e F

pub round_most : (f : Format) (a b : ℕ) (v : Float) → 0 < b → T (nonneg v) → T (fits f v) → a * den v ≤ num v * b → T (le (round f false a b) v)
round_most f a b v B p F h = subst (λ (z : Float). T (le (round f false a b) z)) (id_nonneg f v p F) (round_mono f a b (num v) (den v) B (den_pos v) h)

pub round_least : (f : Format) (a b : ℕ) (v : Float) → 0 < b → T (nonneg v) → T (fits f v) → num v * b ≤ a * den v → T (le v (round f false a b))
round_least f a b v B p F h = subst (λ (z : Float). T (le z (round f false a b))) (id_nonneg f v p F) (round_mono f (num v) (den v) a b (den_pos v) B h)
