-- `compare::abs` meets its contract: the pattern without its highest bit is the pattern of the size.
use Rattle.std.specs.Prelude.{◌≡◌, ℕ, ◌*◌, ◌%◌, ◌≤◌, Bool, true, false, not, T, from_bits, to_bits, Float}
use Rattle.std.proofs.Common.{refl, sym, ◌∙◌, subst, nltb→le, arith}
use Rattle.std.specs.Float.{nan, inf, fin, Format, binary32, binary64}
use Rattle.std.specs.Float.Ieee.{fits, hid, is_nan, ones, top}
use Rattle.std.specs.Float.Ieee.Bits.{nan_bits_above}
use Rattle.numbers.specs.Numbers.{abs_of}
use Rattle.numbers.specs.Laws.{abs_bits, abs_number}
use Rattle.numbers.proofs.compare.abs.Goals as goal

kept : (x : Float) → is_nan x ≡ true → x ≡ abs_of x
unfolding is_nan abs_of
kept nan h = refl
kept (inf s) h = absurd (subst T (sym h) tt)
kept (fin s m e) h = absurd (subst T (sym h) tt)

twice : (f : Format) (b : ℕ) → b % top f % top f ≡ b % top f
twice binary32 b = omega arith
twice binary64 b = omega arith

module _ (f : Format) (x : Float) (h : T (fits f x)) (n : is_nan x ≡ false) where
  number : T (not (is_nan x))
  number = rw n tt

  -- the size's pattern is at most the infinity's
  low : to_bits f x % top f ≤ ones f * hid f
  low =
      let b = to_bits f x % top f in
      subst (λ (r : ℕ). r ≤ ones f * hid f) (twice f (to_bits f x)) (nltb→le (ones f * hid f) (b % top f) (subst (λ (t : Bool). T (not t)) (nan_bits_above f b) (abs_number f x h number)))

  size : from_bits f (to_bits f x % top f) ≡ abs_of x
  size = abs_bits f x h number

pub of_pattern-requires : goal.of_pattern-requires
of_pattern-requires g c =
    let w = g.F.Width in
    rw (c.SIGN.ensures, g.met.F.Width.sign_is, c.pattern.ensures.value) (low w.format (w.number c.args.x) c.pattern.ensures.held (sym c.is_nan.ensures ∙ c.if-is_nan.false))

pub returns-then-is_nan : goal.returns-then-is_nan
returns-then-is_nan g c = kept (g.F.Width.number c.args.x) (sym c.is_nan.ensures ∙ c.if-is_nan.true)

pub returns-else-is_nan : goal.returns-else-is_nan
returns-else-is_nan g c =
    let w = g.F.Width in
    rw (c.of_pattern.ensures, c.SIGN.ensures, g.met.F.Width.sign_is, c.pattern.ensures.value) (size w.format (w.number c.args.x) c.pattern.ensures.held (sym c.is_nan.ensures ∙ c.if-is_nan.false))
