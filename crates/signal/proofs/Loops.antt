-- What the loops over the ring compute, said of the list of points they pass. Assumes nothing.
use Rattle.std.specs.Prelude.{◌≡◌, ℕ, zero, suc, ◌+◌, ◌-◌, ◌*◌, ◌/◌, ◌%◌, ◌≤◌, min, Bool, true, false, cond, not, ◌&&◌, List, [], ◌∷◌, ◌++◌, length, ◌==◌, from_bits, slice_set, Float}
use Rattle.std.proofs.Math.Path.{refl}
use Rattle.std.proofs.Common.{ap, ◌∙◌, mod-lt, arith}
use mathlib.Core.List.{foldl, foldl-append}
use Rattle.std.specs.Float.{nan, inf, fin, binary32}
use Rattle.std.specs.Float.Ieee.{binary64, add, mul, div, lt, is_nan}
use Rattle.laws.specs.Turns.{turns}
use Rattle.laws.specs.Branches.{cond_yes, cond_no}
use Rattle.laws.specs.Places.{upto, upto_at, upto_same, length_upto, pairs, turns_pairs}
use Rattle.laws.specs.Ring.{latest}
use Rattle.numbers.specs.Numbers.{convert, is_finite}
use Rattle.numbers.specs.Root.{sqrt_of}
use Rattle.complex.specs.declared.Complex32.{Complex32}
use Rattle.signal.specs.Signal.{View, WrittenPoints, least_power, hundred, outside, point_at, ring_of, last_of, points_from, summed, mean_of, power64, error_at, parts_of, written_of, usable_of, Read, nothing, shown_as, shown_of, read_of}
use Rattle.signal.specs.Powers.{no_nan_of}

-- a loop over places is a fold over the list of what stands there
pub fold_upto : {A B : Type 0} (h : B → A → B) (g : ℕ → A) (n : ℕ) (b : B) → turns (λ k a. h a (g k)) n b ≡ foldl h b (upto g n)
unfolding turns upto
fold_upto h g zero b = refl
fold_upto h g (suc n) b = rw (fold_upto h g n b, foldl-append)

module _ (re im : List Float) (from : ℕ) where
  -- the k-th point from there on
  abbrev pub next_point : ℕ → Complex32
  next_point k = point_at re im ((from + k) % 1024)

  abbrev pub sum_turn : (Complex32 → Float) → ℕ → Float → Float
  sum_turn f k sum = add binary64 sum (f (next_point k))

  pub summed_from : (f : Complex32 → Float) (n : ℕ) → turns (sum_turn f) n (from_bits binary64 0) ≡ summed f (points_from re im from n)
  unfolding summed points_from
  summed_from f n = fold_upto (λ sum z. add binary64 sum (f z)) next_point n (from_bits binary64 0)

  pub length_from : (n : ℕ) → length (points_from re im from n) ≡ n
  unfolding points_from
  length_from n = length_upto next_point n

  module _ (a : Float) where
    abbrev pub part_at : Float → Float
    part_at x = convert binary32 (div binary64 x a)

    pub parts_append : (xs ys : List Complex32) → parts_of a (xs ++ ys) ≡ parts_of a xs ++ parts_of a ys
    unfolding parts_of
    parts_append [] ys = refl
    parts_append (x ∷ xs) ys = rw (parts_append xs ys)

    pub pairs_from : (n : ℕ) → pairs (λ k. part_at (next_point k).real) (λ k. part_at (next_point k).imaginary) n ≡ parts_of a (points_from re im from n)
    unfolding pairs points_from upto parts_of
    pairs_from zero = refl
    pairs_from (suc n) = rw (pairs_from n, parts_append (upto next_point n) (next_point n ∷ []))

    abbrev pub write_turn : ℕ → List Float → List Float
    write_turn k l = slice_set (slice_set l (k * 2) (part_at (next_point k).real)) (k * 2 + 1) (part_at (next_point k).imaginary)

    -- the loop that writes n points, with the sum of their errors
    pub written_from : (n : ℕ) (l : List Float) (errors : Float) (output : List Float) → n * 2 ≤ length l
        → errors ≡ turns (sum_turn (error_at a)) n (from_bits binary64 0)
        → output ≡ turns write_turn n l
        → ◌≡◌ {A = WrittenPoints} (record { errors = errors; output = output }) (written_of a (points_from re im from n) l)
    unfolding written_of
    written_from n l errors output h e o =
        rw (e, o, summed_from (error_at a) n, turns_pairs (λ k. part_at (next_point k).real) (λ k. part_at (next_point k).imaginary) n l h, pairs_from n, length_from n)

-- the last n points of a view are those from n places before its head on
pub last_from : (v : View) (n : ℕ) → last_of v n ≡ points_from v.real v.imaginary ((v.place.head + 1024 - n) % 1024) n
unfolding last_of latest ring_of points_from
last_from v n =
    upto_same _ _ n (λ i l. upto_at (point_at v.real v.imaginary) 1024 _ outside (mod-lt _ (omega arith)))

-- ---- the whole read: what it computes, step by step, is the definition's
infinite_over : (y : Float) → is_finite (div binary64 (inf false) y) ≡ false
unfolding div is_finite
infinite_over nan = refl
infinite_over (inf t) = refl
infinite_over (fin t n d) = refl

unusable : (n : ℕ) (power : Float) → is_finite power ≡ false → usable_of n power ≡ false
unusable n power h = rw h (go (not (n == 0)) (not (lt power least_power)))
  where
    go : (b c : Bool) → (b && false && c) ≡ false
    go true c = refl
    go false c = refl

-- where the sum is a NaN, neither it nor infinity in its place is usable
no_nan_shown : (n : ℕ) (sum : Float) (f : Float → Read) (r : Read) → cond (usable_of n (mean_of (no_nan_of sum) n)) (f (mean_of (no_nan_of sum) n)) r ≡ cond (usable_of n (mean_of sum n)) (f (mean_of sum n)) r
unfolding is_nan
no_nan_shown n nan f r = rw (unusable n (mean_of (inf false) n) (infinite_over _), unusable n (mean_of nan n) (unfold div is_finite in refl))
no_nan_shown n (inf s) f r = refl
no_nan_shown n (fin s m e) f r = refl

module _ (v : View) (l : List Float) (n : ℕ) (sum power : Float) (usable : Bool) (is_count : n ≡ min v.place.count (length l / 2)) where
  abbrev pub shown_points : List Complex32
  shown_points = points_from v.real v.imaginary ((v.place.head + 1024 - n) % 1024) n

  abbrev shown_with : Float → Read
  shown_with p = shown_as n (written_of (sqrt_of binary64 p) shown_points l)

  shown_is : cond (usable_of n (mean_of (summed power64 shown_points) n)) (shown_with (mean_of (summed power64 shown_points) n)) (nothing l) ≡ read_of v l
  unfolding shown_of
  shown_is = rw (← is_count, last_from v n, length_from v.real v.imaginary ((v.place.head + 1024 - n) % 1024) n)

  module _ (is_sum : sum ≡ no_nan_of (summed power64 shown_points)) (is_power : power ≡ mean_of sum n) (is_usable : usable ≡ usable_of n power) where
    read_is : cond usable (shown_with power) (nothing l) ≡ read_of v l
    read_is = rw (is_usable, is_power, is_sum) (no_nan_shown n (summed power64 shown_points) shown_with (nothing l) ∙ shown_is)

    pub read_found : (root errors mean size : Float) (output : List Float) → usable ≡ true → root ≡ sqrt_of binary64 power
        → ◌≡◌ {A = WrittenPoints} (record { errors = errors; output = output }) (written_of root shown_points l)
        → mean ≡ mean_of errors n → size ≡ sqrt_of binary64 mean
        → ◌≡◌ {A = Read} (record { reading = record { count = n; error = mul binary64 hundred size }; output = output }) (read_of v l)
    read_found root errors mean size output taken is_root is_written is_mean is_size =
        rw (is_size, is_mean) (ap (shown_as n) is_written ∙ ap (λ (a : Float). shown_as n (written_of a shown_points l)) is_root ∙ cond_yes usable _ (nothing l) taken ∙ read_is)

    pub read_nothing : usable ≡ false → nothing l ≡ read_of v l
    read_nothing left = cond_no usable _ _ _ left refl ∙ read_is
