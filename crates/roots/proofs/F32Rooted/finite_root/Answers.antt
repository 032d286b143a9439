-- `F32Rooted::finite_root` meets its contract: the root of the digits at an even place has one digit more than the format, and that digit rounds.
use Rattle.std.proofs.Common.{◌≡◌, ℕ, ◌+◌, ◌-◌, ◌*◌, ◌/◌, ◌%◌, ◌^◌, ◌<◌, ◌≤◌, false, not, T, sym, refl, subst, lt_of_lt_of_le, le_of_lt, zero-add, arith, lit≤}
use lib.Count.{count_leading_zeros}
use lib.Ieee.{binary32}
use lib.Ieee.{nan_bits}
use Rattle.laws.specs.FloatPack.{no_nan_bits}
use Rattle.roots.proofs.Rooting.{Lead, lead, half_le, is_root, even_32, bit_le, small_32, deep_32, lead_32}
use Rattle.roots.proofs.F32Rooted.finite_root.Goals as goal

-- the count of leading zeros
abbrev zeros : goal.Start → ℕ
zeros c = count_leading_zeros 64 c.args.d

leads : (c : goal.Start) → Lead c.args.d (zeros c)
leads c = lead c.args.d c.requires.d_nonzero (lt_of_lt_of_le c.requires.d_bound (lit≤ tt))

tall : (c : goal.Start) → 40 ≤ zeros c
tall c = lead_32 c.args.d c.requires.d_nonzero c.requires.d_bound

pub overflow_add-y : goal.overflow_add-y
overflow_add-y c = omega (arith, (leads c).most, c.requires)

pub overflow_add-y-2 : goal.overflow_add-y-2
overflow_add-y-2 c = omega (arith, (leads c).most, c.requires)

pub overflow_sub-y : goal.overflow_sub-y
overflow_sub-y c = omega (arith, (leads c).least)

pub pow2-requires : goal.pow2-requires
pow2-requires c = omega (arith, (leads c).most)

moved : (c : goal.After-pow2) → c.args.d * c.pow2.result < 2 ^ 64
moved c = subst (λ (x : ℕ). c.args.d * x < 2 ^ 64) (sym c.pow2.ensures) ((leads c.before).under ((c.args.p + zeros c.before + 1) % 2))

pub overflow_mul-d : goal.overflow_mul-d
overflow_mul-d c = omega (arith, moved c)

-- what `root` ensures, of d * 2 ^ y
abbrev y : goal.Start → ℕ
y c = zeros c - (c.args.p + zeros c + 1) % 2

module _ (c : goal.After-root-w) where
  abbrev w : ℕ
  w = c.root-w.result

  abbrev d : ℕ
  d = c.args.d

  lo : w * w * 2 ^ 64 ≤ d * 2 ^ y c.before.before * 2 ^ 50
  lo = subst (λ (x : ℕ). w * w * 2 ^ 64 ≤ d * x * 2 ^ 50) c.pow2.ensures c.root-w.ensures.least

  hi : d * 2 ^ y c.before.before * 2 ^ 50 < (w + 1) * (w + 1) * 2 ^ 64
  hi = subst (λ (x : ℕ). d * x * 2 ^ 50 < (w + 1) * (w + 1) * 2 ^ 64) c.pow2.ensures c.root-w.ensures.most

pub overflow_sub-result : goal.overflow_sub-result
overflow_sub-result c = omega (arith, (leads c.before.before).most)

module _ (c : goal.After-root-w) where
  abbrev a : goal.Start
  a = c.before.before

  abbrev p : ℕ
  p = a.args.p

  abbrev z : ℕ
  z = zeros a

  even : (p + 165 - y a) / 2 + (p + 165 - y a) / 2 + y a ≡ p + 165
  even = even_32 p z (leads a).least (leads a).most

  half : (w c + 1) / 2 ≤ 2 ^ 24
  half = half_le binary32 (d c) p z (w c) ((p + z + 1) % 2) ((p + 165 - y a) / 2) 165 (leads a) (bit_le (p + z + 1)) even refl (deep_32 z ((p + z + 1) % 2) (tall a) (bit_le (p + z + 1))) (lo c) (hi c)

  small : (p + 165 - y a) / 2 * 8388608 + (w c + 1) / 2 < 255 * 8388608
  small = small_32 p (y a) ((w c + 1) / 2) a.requires.p_bound half

-- below the infinity's pattern lies no NaN's
plain : (q : ℕ) → q < 255 * 8388608 → T (not (nan_bits binary32 q))
plain q h = subst (λ (x : ℕ). T (not (nan_bits binary32 x))) (zero-add q) (no_nan_bits binary32 false q (le_of_lt h))

pub overflow_add-result-2 : goal.overflow_add-result-2
overflow_add-result-2 c = omega (arith, half c)

pub overflow_add-result-3 : goal.overflow_add-result-3
overflow_add-result-3 c = omega (arith, half c)

pub overflow_cast-result : goal.overflow_cast-result
overflow_cast-result c = omega (arith, small c)

pub float_from_bits-result : goal.float_from_bits-result
float_from_bits-result c = plain _ (omega (arith, small c))

pub returns : goal.returns
returns c = sym (is_root binary32 (d c) (p c) (z c) (w c) ((p c + z c + 1) % 2) ((p c + 165 - y (a c)) / 2) 165 (leads (a c)) (bit_le (p c + z c + 1)) (even c) refl (deep_32 (z c) ((p c + z c + 1) % 2) (tall (a c)) (bit_le (p c + z c + 1))) (lo c) (hi c) (small c))
