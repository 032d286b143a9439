-- Which patterns are a NaN's, and the two readings of 64 bits as inverses. Assumes nothing.
use Rattle.std.specs.Prelude.{◌≡◌, ℕ, ◌+◌, ◌-◌, ◌*◌, ◌%◌, ◌^◌, ◌<◌, ◌≤◌, Bool, true, false, cond, not, T, List, [], ◌∷◌, length, ℤ, pos, negsuc, from_bits, nat_lt, slice_index, to_bits, refl, Float}
use Rattle.std.proofs.Common.{sym, subst, ap, ◌∙◌, arith, lt-ltb, le-ltb}
use Rattle.std.specs.Float.{nan, inf, fin, Format}
use Rattle.std.specs.Float.Ieee.{ones, hid, top, nan_bits, is_nan, ne}
use Rattle.std.specs.Float.Ieee.Bits.{nan_bits_is, nan_bits_above}
use Rattle.std.specs.Float.Ieee.Compare.{differs_from_itself}
use Rattle.numbers.specs.Bits.{little_endian, signed_of, unsigned_of}

is_nan_lem : (x : Float) → is_nan x ≡ true → x ≡ nan
unfolding is_nan
is_nan_lem nan e = refl
is_nan_lem (inf s) e = absurd (subst T (sym e) tt)
is_nan_lem (fin s m x) e = absurd (subst T (sym e) tt)

-- above the infinity's pattern, the sign's bit left out
pub bits_nan : (f : Format) (b : ℕ) → ones f * hid f < b % top f → nan ≡ from_bits f b
bits_nan f b h = sym (is_nan_lem (from_bits f b) (sym (nan_bits_is f b) ∙ nan_bits_above f b ∙ lt-ltb (ones f * hid f) (b % top f) h))

pub bits_number : (f : Format) (b : ℕ) → b % top f ≤ ones f * hid f → T (not (nan_bits f b))
bits_number f b h = subst (λ (t : Bool). T (not t)) (sym (nan_bits_above f b ∙ le-ltb (ones f * hid f) (b % top f) h)) tt

pub nan_bits_lem : (f : Format) (x : Float) → ne x x ≡ true → to_bits f nan ≡ to_bits f x
nan_bits_lem f x h = ap (to_bits f) (sym (differs_from_itself x (subst T (sym h) tt)))

-- ---- read as signed, and back
pub unsigned_signed : (u : ℕ) → u < 2 ^ 64 → unsigned_of (signed_of u) ≡ u
unsigned_signed u h = go (nat_lt u (2 ^ 63))
  where
    back : 2 ^ 64 - 1 - (2 ^ 64 - 1 - u) ≡ u
    back = omega arith

    go : (b : Bool) → unsigned_of (cond b (pos u) (negsuc (2 ^ 64 - 1 - u))) ≡ u
    go true = refl
    go false = back

-- an i64
abbrev pub InRange : ℤ → Type 0
InRange (pos n) = n < 2 ^ 63
InRange (negsuc k) = k < 2 ^ 63

pub signed_unsigned : (z : ℤ) → InRange z → signed_of (unsigned_of z) ≡ z
signed_unsigned (pos n) h = rw (lt-ltb n (2 ^ 63) h)
signed_unsigned (negsuc k) h =
    let u : 2 ^ 63 ≤ 2 ^ 64 - 1 - k = omega arith in
    let e : 2 ^ 64 - 1 - (2 ^ 64 - 1 - k) ≡ k = omega arith in
    rw (le-ltb (2 ^ 64 - 1 - k) (2 ^ 63) u) (ap negsuc e)

-- ---- four bytes, and eight
pub four_bytes : (l : List ℕ) → length l ≡ 4 → slice_index l 0 + 256 * (slice_index l 1 + 256 * (slice_index l 2 + 256 * slice_index l 3)) ≡ little_endian l
four_bytes [] h = absurd (omega arith)
four_bytes (a ∷ []) h = absurd (omega arith)
four_bytes (a ∷ b ∷ []) h = absurd (omega arith)
four_bytes (a ∷ b ∷ c ∷ []) h = absurd (omega arith)
four_bytes (a ∷ b ∷ c ∷ d ∷ []) h = omega arith
four_bytes (a ∷ b ∷ c ∷ d ∷ e ∷ l) h = absurd (omega arith)

pub eight_bytes : (l : List ℕ) → length l ≡ 8
    → slice_index l 0 + 256 * (slice_index l 1 + 256 * (slice_index l 2 + 256 * slice_index l 3)) + 2 ^ 32 * (slice_index l 4 + 256 * (slice_index l 5 + 256 * (slice_index l 6 + 256 * slice_index l 7))) ≡ little_endian l
eight_bytes [] h = absurd (omega arith)
eight_bytes (a ∷ []) h = absurd (omega arith)
eight_bytes (a ∷ b ∷ []) h = absurd (omega arith)
eight_bytes (a ∷ b ∷ c ∷ []) h = absurd (omega arith)
eight_bytes (a ∷ b ∷ c ∷ d ∷ l) h = rw (← four_bytes l (omega arith)) (omega arith)
