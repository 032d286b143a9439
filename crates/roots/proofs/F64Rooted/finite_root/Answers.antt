-- `F64Rooted::finite_root` meets its contract: the half root of the digits at an even place is the rounded root.
use Rattle.std.proofs.Common.{◌≡◌, ℕ, ◌+◌, ◌-◌, ◌*◌, ◌/◌, ◌%◌, ◌^◌, ◌<◌, ◌≤◌, false, not, T, sym, refl, subst, le_of_lt, zero-add, arith}
use lib.Count.{count_leading_zeros}
use lib.Ieee.{binary64, of_bits}
use lib.Ieee.{nan_bits}
use Rattle.laws.specs.FloatPack.{no_nan_bits}
use Rattle.numbers.specs.Root.{round_root}
use Rattle.roots.specs.Radicands.{HalfRoot}
use Rattle.roots.proofs.Rooting.{Lead, lead, half_le, is_root, even_64, bit_le, small_64, deep_64}
use Rattle.roots.proofs.F64Rooted.finite_root.Goals as goal

-- the count of leading zeros
abbrev zeros : goal.Start → ℕ
zeros c = count_leading_zeros 64 c.args.d

leads : (c : goal.Start) → Lead c.args.d (zeros c)
leads c = lead c.args.d c.requires.d_nonzero c.requires.d_bound

pub overflow_add-y : goal.overflow_add-y
overflow_add-y c = omega (arith, (leads c).most, c.requires)

pub overflow_sub-y : goal.overflow_sub-y
overflow_sub-y c = omega (arith, (leads c).least)

pub pow2-requires : goal.pow2-requires
pow2-requires c = omega (arith, (leads c).most)

moved : (c : goal.After-pow2) → c.args.d * c.pow2.result < 2 ^ 64
moved c = subst (λ (x : ℕ). c.args.d * x < 2 ^ 64) (sym c.pow2.ensures) ((leads c.before).under ((c.args.p + zeros c.before) % 2))

pub overflow_mul-d : goal.overflow_mul-d
overflow_mul-d c = omega (arith, moved c)

-- what `half_root` ensures, of d * 2 ^ y
abbrev y : goal.Start → ℕ
y c = zeros c - (c.args.p + zeros c) % 2

module _ (c : goal.After-half_root-q) where
  abbrev d : ℕ
  d = c.args.d

  halved : HalfRoot (d * 2 ^ y c.before.before) c.half_root-q.result
  halved = subst (λ (x : ℕ). HalfRoot (d * x) c.half_root-q.result) c.pow2.ensures c.half_root-q.ensures

  abbrev w : ℕ
  w = halved.whole

pub overflow_sub-result : goal.overflow_sub-result
overflow_sub-result c = omega (arith, (leads c.before.before).most)

module _ (c : goal.After-half_root-q) where
  abbrev a : goal.Start
  a = c.before.before

  abbrev p : ℕ
  p = a.args.p

  abbrev z : ℕ
  z = zeros a

  abbrev q : ℕ
  q = c.half_root-q.result

  even : (p + 1032 - y a) / 2 + (p + 1032 - y a) / 2 + y a ≡ p + 1032
  even = even_64 p z (leads a).least (leads a).most

  half : q ≤ 2 ^ 53
  half = subst (λ (x : ℕ). x ≤ 2 ^ 53) (halved c).half (half_le binary64 (d c) p z (w c) ((p + z) % 2) ((p + 1032 - y a) / 2) 1032 (leads a) (bit_le (p + z)) even refl (deep_64 (y a)) (halved c).least (halved c).most)

  small : (p + 1032 - y a) / 2 * 0x10_0000_0000_0000 + q < 2047 * 0x10_0000_0000_0000
  small = small_64 p (y a) q a.requires.p_bound half

  rooted : round_root binary64 (d c * 2 ^ p) (2 ^ 1074) ≡ of_bits binary64 ((p + 1032 - y a) / 2 * 0x10_0000_0000_0000 + q)
  rooted =
      subst (λ (x : ℕ). (p + 1032 - y a) / 2 * 0x10_0000_0000_0000 + x < 2047 * 0x10_0000_0000_0000 → round_root binary64 (d c * 2 ^ p) (2 ^ 1074) ≡ of_bits binary64 ((p + 1032 - y a) / 2 * 0x10_0000_0000_0000 + x)) (halved c).half
      (is_root binary64 (d c) p z (w c) ((p + z) % 2) ((p + 1032 - y a) / 2) 1032 (leads a) (bit_le (p + z)) even refl (deep_64 (y a)) (halved c).least (halved c).most)
      small

pub overflow_add-result-2 : goal.overflow_add-result-2
overflow_add-result-2 c = omega (arith, half c)

pub float_from_bits-result : goal.float_from_bits-result
float_from_bits-result c =
    let b = (p c + 1032 - y (a c)) / 2 * 0x10_0000_0000_0000 + q c in
    subst (λ (x : ℕ). T (not (nan_bits binary64 x))) (zero-add b) (no_nan_bits binary64 false b (le_of_lt (small c)))

pub returns : goal.returns
returns c = sym (rooted c)
