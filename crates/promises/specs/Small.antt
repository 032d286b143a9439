-- A mixed part of at most 2 ^ 29 in size quantises to at most 2 ^ 44. Assumes nothing.
use Rattle.std.specs.Prelude.{◌≡◌, refl, List, [], ◌∷◌, map, Bool, ◌&&◌, ℕ, zero, suc, ◌-◌, ◌*◌, ◌/◌, ◌^◌, ◌≤◌, ◌<◌, min, T, ℤ, pos, negsuc, neg_ℤ, nat_abs, get_or, Float}
use Rattle.std.proofs.Common.{sym, ap, ap₂, ◌∙◌, inl, inr, mul_comm, le_of_suc-le-suc, div-lt_iff_lt-mul, arith, le-leb}
use Rattle.std.proofs.Math.Path.{subst}
use Rattle.std.proofs.Math.Bool.{true, false}
use Rattle.std.proofs.lemmas.Bool.{false≢true, lt-leb}
use Rattle.std.proofs.Math.ListN.{get_or-map}
use Rattle.std.specs.Float.{nan, inf, Format, binary32}
use Rattle.std.specs.Float.Ieee.{fin, binary64, of_bits, up, down, round, to_signed, add, sub, mul, le, lt, fits}
use Rattle.std.specs.Float.Ieee.Fits.{down_pos, nan-fits, inf-fits, round-fits}
use Rattle.std.specs.Float.Ieee.Scale.{finite}
use Rattle.laws.specs.Ring.{lt_or_ge}
use Rattle.laws.specs.FloatOrder.{le→, lt→le}
use Rattle.laws.specs.FloatSums.{In, in_finite, in_wider, add_in, sub_in}
use Rattle.laws.specs.FloatProducts.{mul_in}
use Rattle.numbers.specs.Numbers.{convert}
use Rattle.whole.specs.Whole.{whole_of}
use Rattle.complex.specs.declared.Complex32.{Complex32}
use Rattle.complex.specs.Complex.{zero_pair}
use Rattle.oscillator.specs.declared.Oscillator.{Oscillator}
use Rattle.oscillator.specs.Oscillator.{turned_of, product_of}
use Rattle.decimator.specs.Decimator.{quantised_of, counts_of}
use Rattle.decimator.specs.Demand.{no_counts, ago}
use Rattle.decimator.proofs.Theorem.{Within}
use Rattle.decimator.specs.Quantiser.{within}
use Rattle.decimator.proofs.QuantiserLaws.{factor, middle, quantises_within, quantises_beyond}
use Rattle.promises.specs.Taken.{mixed_row}

-- at most 2 ^ k in size
abbrev pub Bounded : ℕ → Float → Type 0
Bounded k x = In (fin true 1 (pos k)) (fin false 1 (pos k)) x

-- ---- the cast
nat_neg : (n : ℕ) → nat_abs (neg_ℤ (pos n)) ≡ n
nat_neg zero = refl
nat_neg (suc n) = refl

quotient : (a c b : ℕ) → 0 < c → a ≤ b * c → a / c ≤ b
quotient a c b C h = le_of_suc-le-suc ((div-lt_iff_lt-mul C).1 (let g : a < suc b * c = omega arith in g))

cast_small : (y : Float) → Bounded 44 y → nat_abs (to_signed 63 y) ≤ 2 ^ 44
unfolding to_signed
cast_small nan i = absurd (in_finite (fin true 1 (pos 44)) (fin false 1 (pos 44)) nan tt tt i)
cast_small (inf s) i = absurd (in_finite (fin true 1 (pos 44)) (fin false 1 (pos 44)) (inf s) tt tt i)
cast_small (fin true m e) i =
    let h = le→ (fin true 1 (pos 44)) (fin true m e) tt tt i.lower in
    let q = quotient (m * up e) (down e) (2 ^ 44) (down_pos e) (omega arith) in
    subst (λ (n : ℕ). n ≤ 2 ^ 44) (sym (nat_neg (min (m * up e / down e) (2 ^ 63)))) (omega arith)
cast_small (fin false m e) i =
    let h = le→ (fin false m e) (fin false 1 (pos 44)) tt tt i.upper in
    let q = quotient (m * up e) (down e) (2 ^ 44) (down_pos e) (omega arith) in
    omega arith

-- ---- the product, either way round
swapped : (f : Format) (x : Float) (n : ℕ) (d : ℤ) → T (finite x) → mul f (fin false n d) x ≡ mul f x (fin false n d)
unfolding mul
swapped f nan n d F = absurd F
swapped f (inf s) n d F = absurd F
swapped f (fin true m e) n d F = ap₂ (round f true) (mul_comm (n * up d) (m * up e)) (mul_comm (down d) (down e))
swapped f (fin false m e) n d F = ap₂ (round f false) (mul_comm (n * up d) (m * up e)) (mul_comm (down d) (down e))

-- ---- below 512, and from there on
and_both : (a b : Bool) → (a && b) ≡ true → T a × T b
and_both true true h = (tt, tt)
and_both true false h = absurd (false≢true h)
and_both false b h = absurd (false≢true h)

near : (x : Float) → within x ≡ true → Bounded 9 x
unfolding within
near x h =
    let p = and_both (lt (fin true 1 (pos 9)) x) (lt x (fin false 1 (pos 9))) h in
    record { lower = lt→le (fin true 1 (pos 9)) x p.0; upper = lt→le x (fin false 1 (pos 9)) p.1 }

module _ (x : Float) (F : T (finite x)) where
  scaled_in : Bounded 9 x → In (mul binary64 factor (fin true 1 (pos 9))) (mul binary64 factor (fin false 1 (pos 9))) (mul binary64 x factor)
  scaled_in i = subst (λ (y : Float). In (mul binary64 factor (fin true 1 (pos 9))) (mul binary64 factor (fin false 1 (pos 9))) y) (swapped binary64 x 67108865 (negsuc 10) F) (mul_in binary64 factor (fin true 1 (pos 9)) (fin false 1 (pos 9)) tt tt i)

  steps_in : Bounded 9 x → Bounded 44 (sub binary64 (add binary64 (mul binary64 x factor) middle) middle)
  unfolding mul add sub le
  steps_in i =
      let lo = mul binary64 factor (fin true 1 (pos 9)) in
      let hi = mul binary64 factor (fin false 1 (pos 9)) in
      let m : In middle middle middle = record { lower = tt; upper = tt } in
      let a = add_in binary64 lo hi middle middle tt tt (scaled_in i) m in
      let b = sub_in binary64 (add binary64 lo middle) (add binary64 hi middle) middle middle tt tt a m in
      in_wider (sub binary64 (add binary64 lo middle) middle) (sub binary64 (add binary64 hi middle) middle) (fin true 1 (pos 44)) (fin false 1 (pos 44)) tt tt tt tt b

  product_in : Bounded 29 x → Bounded 44 (mul binary64 x (of_bits binary64 0x40e0_0000_0000_0000))
  unfolding mul of_bits le
  product_in i =
      let k = fin false 1 (pos 15) in
      let a = mul_in binary64 k (fin true 1 (pos 29)) (fin false 1 (pos 29)) tt tt i in
      subst (Bounded 44) (swapped binary64 x 1 (pos 15) F)
      (in_wider (mul binary64 k (fin true 1 (pos 29))) (mul binary64 k (fin false 1 (pos 29))) (fin true 1 (pos 44)) (fin false 1 (pos 44)) tt tt tt tt a)

-- THE LAW
pub quantise_small : (x : Float) → T (fits binary32 x) → Bounded 29 x → nat_abs (quantised_of x) ≤ 2 ^ 44
quantise_small x F i = go (within x) refl
  where
    G : T (finite x)
    G = in_finite (fin true 1 (pos 29)) (fin false 1 (pos 29)) x tt tt i

    go : (b : Bool) → within x ≡ b → nat_abs (quantised_of x) ≤ 2 ^ 44
    go true h = subst (λ (z : ℤ). nat_abs z ≤ 2 ^ 44) (quantises_within x F h).is (cast_small _ (steps_in x G (near x h)))
    go false h = subst (λ (z : ℤ). nat_abs z ≤ 2 ^ 44) (quantises_beyond x F h) (cast_small _ (product_in x G i))

-- ---- mixed samples
pub record Small (z : Complex32) : Type 0 where
  pub real_part : Bounded 29 z.real
  pub imaginary_part : Bounded 29 z.imaginary

narrow_fits : (y : Float) → T (fits binary32 (convert binary32 y))
unfolding convert
narrow_fits nan = nan-fits binary32
narrow_fits (inf s) = inf-fits binary32 s
narrow_fits (fin s m e) = round-fits binary32 s (m * up e) (down e)

mixed_fits : (conjugated : Bool) (o : Oscillator) (xs : List Complex32) (i : ℕ)
    → T (fits binary32 (get_or (mixed_row conjugated o xs) i zero_pair).real) × T (fits binary32 (get_or (mixed_row conjugated o xs) i zero_pair).imaginary)
unfolding mixed_row
mixed_fits conjugated o [] i = unfold fits of_bits in (tt, tt)
mixed_fits conjugated o (x ∷ xs) zero = (narrow_fits (product_of o x conjugated).real, narrow_fits (product_of o x conjugated).imaginary)
mixed_fits conjugated o (x ∷ xs) (suc i) = mixed_fits conjugated (turned_of o) xs i

none_counts : no_counts ≡ counts_of zero_pair
unfolding quantised_of whole_of mul of_bits to_signed
none_counts = refl

pub small_counts : (conjugated : Bool) (o : Oscillator) (xs : List Complex32) (n a : ℕ) → (a ≤ n → Small (get_or (mixed_row conjugated o xs) (n - a) zero_pair)) → Within (ago (map counts_of (mixed_row conjugated o xs)) n a)
small_counts conjugated o xs n a h = elim (lt_or_ge n a) [
  | inl l ↦ rw (lt-leb a n l) (record { real_part = omega arith; imaginary_part = omega arith })
  | inr l ↦
      let zs = mixed_row conjugated o xs in
      let f = mixed_fits conjugated o xs (n - a) in
      let e : counts_of (get_or zs (n - a) zero_pair) ≡ get_or (map counts_of zs) (n - a) no_counts = sym (get_or-map counts_of zs (n - a) zero_pair) ∙ ap (get_or (map counts_of zs) (n - a)) (sym none_counts) in
      rw (le-leb a n l) (subst Within e (record { real_part = quantise_small (get_or zs (n - a) zero_pair).real f.0 (h l).real_part; imaginary_part = quantise_small (get_or zs (n - a) zero_pair).imaginary f.1 (h l).imaginary_part }))
]
