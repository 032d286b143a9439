-- For either format: the pattern k * hid + q of a rounded number q * 2 ^ k in units of the smallest value, and how a shift to the right by division rounds. Assumes nothing.
use Rattle.std.specs.Prelude.{◌≡◌, Bool, true, false, not, cond, T, ltb, Float}
use Rattle.std.proofs.Math.Path.{refl}
use Rattle.std.proofs.Common.{sym, ap, ◌∙◌, subst, inl, inr, mod-eq_of_lt, suc-add, sub-le, le_refl, le_trans, le_of_eq, le_antisymm, lt_of_lt_of_le, lt_of_le_of_lt, lt_of_not-le, not-le_of_lt, eq-or-lt_of_le, zero-lt-suc, zero-add, add_assoc, mul-one, mul_comm, mul_assoc, mul_left_comm, mul_right_comm, mul-pos, mul-le-mul_right, mul-lt-mul_of_pos_right, le_of_mul-le-mul_right, lt_of_mul-lt-mul_right, mul-div_cancel, div-one, div-lt_iff_lt-mul, le-div_iff_mul-le, arith, ltb→lt, nltb→le, lit≤, shr_lt, pow-add, pow_pos, pow_mono, shl_lt}
use Prim.Native.Nat.{ℕ, zero, suc, ◌+◌, ◌-◌, ◌*◌, ◌/◌, ◌%◌, ◌^◌, ◌≤◌, ◌<◌, compare, min}
use Rattle.std.proofs.Math.Nat.{add-mod_left, pow-succ'}
use Rattle.std.proofs.Math.Dec.{not_T}
use Rattle.std.proofs.Math.Pow.{pow-lt}
use Rattle.std.specs.Float.{nan, inf, fin, Format, binary32, binary64}
use Rattle.std.specs.Float.Ieee.{prec, emax, low, hid, ones, top, down, size, odd, units, round, fits, of_bits, to_bits, nan_bits}
use Rattle.std.specs.Float.Ieee.Digits.{size-lt, size-le}
use Rattle.std.specs.Float.Ieee.Fits.{odd-fits, down_pos, inf-fits, round_is, nearest-le}
use Rattle.std.specs.Float.Ieee.Bits.{of_bits-to_bits, cond_no, nan_bits_above}
use Rattle.std.specs.Float.Ieee.Exact.{HasValue, units_val}
use Rattle.std.specs.Float.Ieee.Nearest.{closest, closest_same, nearest-ge}
use Rattle.std.specs.Float.Ieee.Order.{drop}

-- ---- a value of the format is known by its sign and its size in units of the smallest value
to_bits_value : (f : Format) (x : Float) (s : Bool) (a : ℕ) → HasValue x s a (2 ^ low f) → to_bits f x ≡ cond s (top f) 0 + (size a - prec f) * hid f + a / 2 ^ (size a - prec f)
unfolding to_bits
to_bits_value f nan s a h = absurd h
to_bits_value f (inf t) s a h = absurd h
to_bits_value f (fin t m e) s a h =
    ap (λ (x : ℕ). cond t (top f) 0 + (size x - prec f) * hid f + x / 2 ^ (size x - prec f)) (ap (λ (x : ℕ). x / down e) h.1 ∙ mul-div_cancel a (down_pos e))
    ∙ ap (λ (b : Bool). cond b (top f) 0 + (size a - prec f) * hid f + a / 2 ^ (size a - prec f)) h.0

pub value_unique : (f : Format) (x y : Float) (s : Bool) (a : ℕ) → T (fits f x) → T (fits f y) → HasValue x s a (2 ^ low f) → HasValue y s a (2 ^ low f) → x ≡ y
value_unique f x y s a p q h k = sym (of_bits-to_bits f x p) ∙ ap (of_bits f) (to_bits_value f x s a h ∙ sym (to_bits_value f y s a k)) ∙ of_bits-to_bits f y q

-- ---- how many digits
size_gt : (n j : ℕ) → 2 ^ j ≤ n → j < size n
size_gt n j h = lt_of_not-le (λ (g : size n ≤ j). not-le_of_lt (lt_of_lt_of_le (size-lt n) (pow_mono g)) h)

size_exact : (n j : ℕ) → 2 ^ j ≤ n → n < 2 ^ suc j → size n ≡ suc j
size_exact n j lo hi = le_antisymm (size-le n (suc j) hi) (size_gt n j lo)

-- ---- the pattern's number, by cases
twice_hid : (f : Format) → 2 ^ prec f ≡ 2 * hid f
twice_hid binary32 = refl
twice_hid binary64 = refl

prec_suc : (f : Format) → prec f ≡ suc (prec f - 1)
prec_suc binary32 = refl
prec_suc binary64 = refl

abbrev pat : Format → ℕ → ℕ
pat f n = (size n - prec f) * hid f + n / 2 ^ (size n - prec f)

less_prec : (z p k : ℕ) → z ≡ p + k → z - p ≡ k
less_prec z p k h = omega arith

none : (z p : ℕ) → z ≤ p → z - p ≡ 0
none z p h = omega arith

pat_mid : (f : Format) (q k : ℕ) → hid f ≤ q → q < 2 ^ prec f → pat f (q * 2 ^ k) ≡ k * hid f + q
pat_mid f q k h l =
    let j = prec f - 1 + k in
    let sj : suc j ≡ prec f + k = sym (suc-add (prec f - 1) k) ∙ ap (λ (x : ℕ). x + k) (sym (prec_suc f)) in
    let z : size (q * 2 ^ k) ≡ prec f + k =
    size_exact (q * 2 ^ k) j (le_trans (le_of_eq (pow-add 2 (prec f - 1) k)) (mul-le-mul_right (2 ^ k) h)) (subst (λ (x : ℕ). q * 2 ^ k < 2 ^ x) (sym sj) (shl_lt (prec f) k l)) ∙ sj in
    ap (λ (x : ℕ). x * hid f + q * 2 ^ k / 2 ^ x) (less_prec (size (q * 2 ^ k)) (prec f) k z) ∙ ap (λ (x : ℕ). k * hid f + x) (mul-div_cancel q (pow_pos k))

pat_low : (f : Format) (q : ℕ) → q < hid f → pat f (q * 2 ^ 0) ≡ 0 * hid f + q
pat_low f q h = ap (λ (x : ℕ). x * hid f + q * 1 / 2 ^ x) (none (size (q * 1)) (prec f) (le_trans (size-le (q * 1) (prec f - 1) (subst (λ (x : ℕ). x < hid f) (sym (mul-one q)) h)) (sub-le (prec f) 1))) ∙ ap (λ (x : ℕ). 0 * hid f + x) (div-one (q * 1) ∙ mul-one q)

hid_lt : (f : Format) → hid f < 2 ^ prec f
hid_lt binary32 = lit≤ tt
hid_lt binary64 = lit≤ tt

one_up : (k h q : ℕ) → q ≡ 2 * h → suc k * h + h ≡ k * h + q
one_up k h q e = omega arith

pat_top : (f : Format) (q k : ℕ) → q ≡ 2 ^ prec f → pat f (q * 2 ^ k) ≡ k * hid f + q
pat_top f q k e =
    let e2 = e ∙ twice_hid f in
    let w : q * 2 ^ k ≡ hid f * 2 ^ suc k = ap (λ (x : ℕ). x * 2 ^ k) e2 ∙ mul_right_comm 2 (hid f) (2 ^ k) ∙ mul_comm (2 * 2 ^ k) (hid f) ∙ ap (λ (x : ℕ). hid f * x) (sym (pow-succ' 2 k)) in
    ap (pat f) w ∙ pat_mid f (hid f) (suc k) (le_refl (hid f)) (hid_lt f) ∙ one_up k (hid f) q e2

pat_is : (f : Format) (q k : ℕ) → q ≤ 2 ^ prec f → (0 < k → hid f ≤ q) → pat f (q * 2 ^ k) ≡ k * hid f + q
pat_is f q zero h g = elim (eq-or-lt_of_le h) [
  | inl e ↦ pat_top f q 0 e
  | inr l ↦ go (ltb q (hid f)) (ltb→lt q (hid f)) (nltb→le q (hid f)) l
]
  where
    go : (b : Bool) → (T b → q < hid f) → (T (not b) → hid f ≤ q) → q < 2 ^ prec f → pat f (q * 2 ^ 0) ≡ 0 * hid f + q
    go true a b l = pat_low f q (a tt)
    go false a b l = pat_mid f q 0 (b tt) l
pat_is f q (suc k) h g = elim (eq-or-lt_of_le h) [ inl e ↦ pat_top f q (suc k) e | inr l ↦ pat_mid f q (suc k) (g (zero-lt-suc k)) l ]

-- ---- where it overflows
room_mid : (f : Format) (q k : ℕ) → (0 < k → hid f ≤ q) → k * hid f + q < ones f * hid f → prec f + k ≤ low f + suc (emax f)
room_mid f q zero g h = start f
  where
    start : (f : Format) → prec f + 0 ≤ low f + suc (emax f)
    start binary32 = lit≤ tt
    start binary64 = lit≤ tt
room_mid binary32 q (suc k) g h = let l = g (zero-lt-suc k) in omega arith
room_mid binary64 q (suc k) g h = let l = g (zero-lt-suc k) in omega arith

room_top : (f : Format) (q k : ℕ) → q ≡ 2 ^ prec f → k * hid f + q < ones f * hid f → prec f + k < low f + suc (emax f)
room_top binary32 q k e h = omega arith
room_top binary64 q k e h = omega arith

pub pattern_under : (f : Format) (q k : ℕ) → q ≤ 2 ^ prec f → (0 < k → hid f ≤ q) → k * hid f + q < ones f * hid f → q * 2 ^ k < 2 ^ (low f + suc (emax f))
pattern_under f q k l g h = elim (eq-or-lt_of_le l) [
  | inl e ↦ lt_of_le_of_lt (le_of_eq (ap (λ (x : ℕ). x * 2 ^ k) e ∙ sym (pow-add 2 (prec f) k))) (pow-lt (room_top f q k e h))
  | inr m ↦ lt_of_lt_of_le (shl_lt (prec f) k m) (pow_mono (room_mid f q k g h))
]

past_mid : (f : Format) (q k : ℕ) → q < 2 ^ prec f → ones f * hid f ≤ k * hid f + q → low f + suc (emax f) ≤ prec f - 1 + k
past_mid binary32 q k l h = omega arith
past_mid binary64 q k l h = omega arith

past_top : (f : Format) (q k : ℕ) → q ≡ 2 ^ prec f → ones f * hid f ≤ k * hid f + q → low f + suc (emax f) ≤ prec f + k
past_top binary32 q k e h = omega arith
past_top binary64 q k e h = omega arith

some : (f : Format) (q k : ℕ) → q < 2 ^ prec f → ones f * hid f ≤ k * hid f + q → 0 < k
some binary32 q k l h = omega arith
some binary64 q k l h = omega arith

pub pattern_over : (f : Format) (q k : ℕ) → q ≤ 2 ^ prec f → (0 < k → hid f ≤ q) → ones f * hid f ≤ k * hid f + q → 2 ^ (low f + suc (emax f)) ≤ q * 2 ^ k
pattern_over f q k l g h = elim (eq-or-lt_of_le l) [
  | inl e ↦ le_trans (pow_mono (past_top f q k e h)) (le_of_eq (pow-add 2 (prec f) k ∙ ap (λ (x : ℕ). x * 2 ^ k) (sym e)))
  | inr m ↦ le_trans (pow_mono (past_mid f q k m h)) (le_trans (le_of_eq (pow-add 2 (prec f - 1) k)) (mul-le-mul_right (2 ^ k) (g (some f q k m h))))
]

-- ---- the pattern
pub units_fits : (f : Format) (s : Bool) (q k : ℕ) → q ≤ 2 ^ prec f → T (fits f (units f s q k))
unfolding units
units_fits f s q k a = go (ltb (q * 2 ^ k) (2 ^ (low f + suc (emax f)))) (ltb→lt (q * 2 ^ k) (2 ^ (low f + suc (emax f))))
  where
    go : (b : Bool) → (T b → q * 2 ^ k < 2 ^ (low f + suc (emax f))) → T (fits f (cond b (odd (suc (prec f)) s q k (low f)) (inf s)))
    go true h = odd-fits f (suc (prec f)) s q k (lt_of_le_of_lt a (pow-lt (le_refl (suc (prec f))))) a (h tt)
    go false h = inf-fits f s

pub packed : (f : Format) (s : Bool) (q k : ℕ) → q ≤ 2 ^ prec f → (0 < k → hid f ≤ q) → k * hid f + q < ones f * hid f → units f s q k ≡ of_bits f (cond s (top f) 0 + (k * hid f + q))
packed f s q k l g h =
    sym (of_bits-to_bits f (units f s q k) (units_fits f s q k l))
    ∙ ap (of_bits f) (to_bits_value f (units f s q k) s (q * 2 ^ k) (units_val f s q k (pattern_under f q k l g h)) ∙ add_assoc (cond s (top f) 0) ((size (q * 2 ^ k) - prec f) * hid f) (q * 2 ^ k / 2 ^ (size (q * 2 ^ k) - prec f)) ∙ ap (λ (x : ℕ). cond s (top f) 0 + x) (pat_is f q k l g))

no_lt : (a b : ℕ) → b ≤ a → T (not (ltb a b))
no_lt a b h = not_T (ltb a b) (λ t. not-le_of_lt (ltb→lt a b t) h)

pub packed_inf : (f : Format) (s : Bool) (q k : ℕ) → q ≤ 2 ^ prec f → (0 < k → hid f ≤ q) → ones f * hid f ≤ k * hid f + q → units f s q k ≡ inf s
unfolding units
packed_inf f s q k l g h = cond_no (ltb (q * 2 ^ k) (2 ^ (low f + suc (emax f)))) (odd (suc (prec f)) s q k (low f)) (inf s) (no_lt (q * 2 ^ k) (2 ^ (low f + suc (emax f))) (pattern_over f q k l g h))

pub inf_bits : (f : Format) (s : Bool) → of_bits f (cond s (top f) 0 + ones f * hid f) ≡ inf s
inf_bits f s = ap (of_bits f) (sym (is f s)) ∙ of_bits-to_bits f (inf s) (inf-fits f s)
  where
    is : (f : Format) (s : Bool) → to_bits f (inf s) ≡ cond s (top f) 0 + ones f * hid f
    is f s = unfold to_bits in refl

-- ---- `round` by a shift to the right: the value is d / 2 ^ sh * 2 ^ k in units of the smallest value, and d has as many digits as k says
less_than : (n den p sh k d : ℕ) → 0 < den → n * 2 ^ sh ≡ d * (den * 2 ^ k) → d < 2 ^ (p + sh) → n < 2 ^ (p + k) * den
less_than n den p sh k d D e h =
    lt_of_mul-lt-mul_right (2 ^ sh)
    (subst (λ (x : ℕ). x < 2 ^ (p + k) * den * 2 ^ sh) (sym e)
    (lt_of_lt_of_le (mul-lt-mul_of_pos_right h (mul-pos D (pow_pos k))) (le_of_eq (simp (pow-add, mul_assoc, mul_comm, mul_left_comm)))))

at_least : (n den p sh k d : ℕ) → n * 2 ^ sh ≡ d * (den * 2 ^ k) → 2 ^ (p + sh) ≤ d → 2 ^ (p + k) * den ≤ n
at_least n den p sh k d e h =
    le_of_mul-le-mul_right
    (le_trans (le_of_eq (simp (pow-add, mul_assoc, mul_comm, mul_left_comm))) (le_trans (mul-le-mul_right (den * 2 ^ k) h) (le_of_eq (sym e))))
    (pow_pos sh)

clip : (z p k : ℕ) → z ≤ p + k → (0 < k → p + k ≤ z) → z - p ≡ k
clip z p zero h g = omega arith
clip z p (suc k) h g = let l = g (zero-lt-suc k) in omega arith

drop_is : (f : Format) (n den k : ℕ) → 0 < den → n < 2 ^ (prec f + k) * den → (0 < k → 2 ^ (prec f - 1 + k) * den ≤ n) → drop (prec f) n den ≡ k
drop_is f n den k D h g =
    clip (size (n / den)) (prec f) k (size-le (n / den) (prec f + k) ((div-lt_iff_lt-mul D).1 h))
    (λ p. subst (λ (x : ℕ). x ≤ size (n / den)) (sym (suc-add (prec f - 1) k) ∙ ap (λ (x : ℕ). x + k) (sym (prec_suc f))) (size_gt (n / den) (prec f - 1 + k) ((le-div_iff_mul-le D).1 (g p))))

-- the number kept is of the right size
pub closest_top : (d p sh : ℕ) → d < 2 ^ (p + sh) → closest d (2 ^ sh) ≤ 2 ^ p
closest_top d p sh h = le_trans (nearest-le (d / 2 ^ sh) (compare (d % 2 ^ sh * 2) (2 ^ sh))) (shr_lt p sh h)

pub closest_low : (d p sh : ℕ) → 2 ^ (p + sh) ≤ d → 2 ^ p ≤ closest d (2 ^ sh)
closest_low d p sh h = le_trans ((le-div_iff_mul-le (pow_pos sh)).1 (le_trans (le_of_eq (sym (pow-add 2 p sh))) h)) (nearest-ge (d / 2 ^ sh) (compare (d % 2 ^ sh * 2) (2 ^ sh)))

module _ (f : Format) (s : Bool) (num den d sh k : ℕ) (D : 0 < den) (e : num * 2 ^ low f * 2 ^ sh ≡ d * (den * 2 ^ k)) (hi : d < 2 ^ (prec f + sh)) (lo : 0 < k → 2 ^ (prec f - 1 + sh) ≤ d) where
  pub shifted : round f s num den ≡ units f s (closest d (2 ^ sh)) k
  shifted =
      let n = num * 2 ^ low f in
      let ek : drop (prec f) n den ≡ k = drop_is f n den k D (less_than n den (prec f) sh k d D e hi) (λ p. at_least n den (prec f - 1) sh k d e (lo p)) in
      round_is f s num den
      ∙ ap (λ (x : ℕ). units f s (closest n (den * 2 ^ x)) x) ek
      ∙ ap (λ (x : ℕ). units f s x k) (closest_same n (den * 2 ^ k) d (2 ^ sh) (mul-pos D (pow_pos k)) (pow_pos sh) e)

  pub shifted_bits : k * hid f + closest d (2 ^ sh) < ones f * hid f → round f s num den ≡ of_bits f (cond s (top f) 0 + (k * hid f + closest d (2 ^ sh)))
  shifted_bits h = shifted ∙ packed f s (closest d (2 ^ sh)) k (closest_top d (prec f) sh hi) (λ p. closest_low d (prec f - 1) sh (lo p)) h

  pub shifted_inf : ones f * hid f ≤ k * hid f + closest d (2 ^ sh) → round f s num den ≡ inf s
  shifted_inf h = shifted ∙ packed_inf f s (closest d (2 ^ sh)) k (closest_top d (prec f) sh hi) (λ p. closest_low d (prec f - 1) sh (lo p)) h

  pub shifted_min : round f s num den ≡ of_bits f (cond s (top f) 0 + min (k * hid f + closest d (2 ^ sh)) (ones f * hid f))
  shifted_min = go (ltb (k * hid f + closest d (2 ^ sh)) (ones f * hid f)) (ltb→lt (k * hid f + closest d (2 ^ sh)) (ones f * hid f)) (nltb→le (k * hid f + closest d (2 ^ sh)) (ones f * hid f))
    where
      left : (a b : ℕ) → a < b → a ≡ min a b
      left a b h = omega arith

      right : (a b : ℕ) → b ≤ a → b ≡ min a b
      right a b h = omega arith

      go : (b : Bool) → (T b → k * hid f + closest d (2 ^ sh) < ones f * hid f) → (T (not b) → ones f * hid f ≤ k * hid f + closest d (2 ^ sh))
          → round f s num den ≡ of_bits f (cond s (top f) 0 + min (k * hid f + closest d (2 ^ sh)) (ones f * hid f))
      go true h g = shifted_bits (h tt) ∙ ap (λ (x : ℕ). of_bits f (cond s (top f) 0 + x)) (left (k * hid f + closest d (2 ^ sh)) (ones f * hid f) (h tt))
      go false h g = shifted_inf (g tt) ∙ sym (inf_bits f s) ∙ ap (λ (x : ℕ). of_bits f (cond s (top f) 0 + x)) (right (k * hid f + closest d (2 ^ sh)) (ones f * hid f) (g tt))

-- ---- no such pattern is a NaN's
below_top : (f : Format) (p : ℕ) → p ≤ ones f * hid f → p < top f
below_top binary32 p h = omega arith
below_top binary64 p h = omega arith

pub no_nan_bits : (f : Format) (s : Bool) (p : ℕ) → p ≤ ones f * hid f → T (not (nan_bits f (cond s (top f) 0 + p)))
no_nan_bits f s p h =
    subst (λ (b : Bool). T (not b)) (sym (nan_bits_above f (cond s (top f) 0 + p)))
    (subst (λ (x : ℕ). T (not (ltb (ones f * hid f) x))) (sym (rest s)) (no_lt (ones f * hid f) p h))
  where
    rest : (s : Bool) → (cond s (top f) 0 + p) % top f ≡ p
    rest true = add-mod_left (top f) p ∙ mod-eq_of_lt (below_top f p h)
    rest false = ap (λ (x : ℕ). x % top f) (zero-add p) ∙ mod-eq_of_lt (below_top f p h)
