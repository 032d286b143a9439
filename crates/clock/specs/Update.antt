-- The loop's update: its constants are the Rust's expressions; and from a phase in 0..32, a rate in -0.1..0.1 and an error in -1..1, each of them NaN or so,
-- the new phase lies in -16..48 and the new rate in -0.1..0.1, or is NaN. Each bound is that of the sum before it, computed in f32. Assumes nothing.
use Rattle.std.specs.Prelude.{◌≡◌, ℕ, zero, suc, Bool, true, false, T, ◌⊎◌, pos, negsuc, refl, Float}
use Rattle.std.proofs.Common.{ap, inl, inr}
use Rattle.std.specs.Float.{nan, inf, fin, Format, binary32}
use Rattle.std.specs.Float.Ieee.{of_bits, add, mul, div, lt, le}
use Rattle.numbers.specs.Constants.{zero32}
use Rattle.laws.specs.Turns.{turns}
use Rattle.laws.specs.FloatOrder.{lt_nan}
use Rattle.laws.specs.FloatSums.{In, ends, in_finite, add_in, in_wider}
use Rattle.laws.specs.FloatProducts.{mul_in}
use Rattle.numbers.specs.Numbers.{clamp_of}
use Rattle.numbers.specs.Clamped.{clamp_in}
use Rattle.clock.specs.Clock.{thirty_two, minus16, f48, alpha, beta, tenth, minus_tenth, Moving, move_turn, moved_of}
use Rattle.clock.specs.Ranges.{PhaseFits, PhaseTurned, RateFits, ErrorFits}

-- ---- the constants: BW = 0.01, DENOMINATOR = 1 + 128 BW + BW BW, ALPHA = 256 BW / DENOMINATOR, BETA = 4 BW BW / DENOMINATOR, in f32
unfoldable pub bandwidth : Float
unfolding of_bits
bandwidth = of_bits binary32 0x3c23d70a

unfoldable pub denominator : Float
unfolding bandwidth add mul
denominator = add binary32 (add binary32 (fin false 1 (pos 0)) (mul binary32 (fin false 1 (pos 7)) bandwidth)) (mul binary32 bandwidth bandwidth)

pub alpha_is : alpha ≡ div binary32 (mul binary32 (fin false 1 (pos 8)) bandwidth) denominator
unfolding denominator bandwidth of_bits add mul div
alpha_is = refl

pub beta_is : beta ≡ div binary32 (mul binary32 (mul binary32 (fin false 1 (pos 2)) bandwidth) bandwidth) denominator
unfolding denominator bandwidth of_bits add mul div
beta_is = refl

-- ---- a clamp keeps a NaN
clamp_nan : (x a b : Float) → x ≡ nan → clamp_of x a b ≡ nan
unfolding clamp_of lt
clamp_nan x a b e = rw (e, lt_nan b)

-- ---- one turn, within numbers: the rate within n / 1024 of 0, the phase within a / 8 below 0 and b / 8 above it
abbrev one : Bool → Float
one s = fin s 1 (pos 0)

abbrev fine : Bool → ℕ → Float
fine s n = fin s n (negsuc 9)

abbrev eighth : Bool → ℕ → Float
eighth s n = fin s n (negsuc 2)

record Near (n a b : ℕ) (m : Moving) : Type 0 where
  rates : In (fine true n) (fine false n) m.rate
  phases : In (eighth true a) (eighth false b) m.phase

-- the ends after a turn, as computed
abbrev rate_end : Bool → ℕ → Float
rate_end s n = add binary32 (fine s n) (mul binary32 beta (one s))

abbrev move_end : Bool → ℕ → Float
move_end s n = add binary32 (fine s n) (mul binary32 alpha (one s))

abbrev phase_end : Bool → ℕ → ℕ → Float
phase_end s a n = add binary32 (eighth s a) (move_end s n)

-- over the numbers: every test is `tt` at numerals
turn_in : (n a b n' a' b' : ℕ) → T (ends (rate_end true n) (rate_end false n)) → T (le (fine true n') (rate_end true n)) → T (le (rate_end false n) (fine false n'))
    → T (ends (move_end true n') (move_end false n')) → T (ends (phase_end true a n') (phase_end false b n')) → T (le (eighth true a') (phase_end true a n')) → T (le (phase_end false b n') (eighth false b'))
    → (e : Float) → In (one true) (one false) e → (k : ℕ) (m : Moving) → Near n a b m → Near n' a' b' (move_turn e k m)
unfolding of_bits mul
turn_in n a b n' a' b' t3 t4 t5 t6 t7 t8 t9 e i k m h =
    let r : In (fine true n') (fine false n') (add binary32 m.rate (mul binary32 beta e))
    = in_wider (rate_end true n) (rate_end false n) (fine true n') (fine false n') t3 tt t4 t5
    (add_in binary32 (fine true n) (fine false n) (mul binary32 beta (one true)) (mul binary32 beta (one false)) tt tt h.rates (mul_in binary32 beta (one true) (one false) tt tt i)) in
    let q = add_in binary32 (fine true n') (fine false n') (mul binary32 alpha (one true)) (mul binary32 alpha (one false)) tt tt r (mul_in binary32 alpha (one true) (one false) tt tt i) in
    record {
      rates = r;
      phases = in_wider (phase_end true a n') (phase_end false b n') (eighth true a') (eighth false b') t7 tt t8 t9 (add_in binary32 (eighth true a) (eighth false b) (move_end true n') (move_end false n') tt t6 h.phases q);
    }

moved_in : (e : Float) (m : Moving) → In (one true) (one false) e → In minus_tenth tenth m.rate → In zero32 thirty_two m.phase
    → In minus_tenth tenth (clamp_of (moved_of e m).rate minus_tenth tenth) × In minus16 f48 (moved_of e m).phase
unfolding moved_of turns of_bits add mul le
moved_in e m i r p =
    let k0 : Near 103 1 257 (record { rate = m.rate; phase = add binary32 m.phase m.rate }) = record {
      rates = in_wider minus_tenth tenth (fine true 103) (fine false 103) tt tt tt tt r;
      phases = in_wider (add binary32 zero32 minus_tenth) (add binary32 thirty_two tenth) (eighth true 1) (eighth false 257) tt tt tt tt (add_in binary32 zero32 thirty_two minus_tenth tenth tt tt p r);
    } in
    let k1 = turn_in 103 1 257 104 11 267 tt tt tt tt tt tt tt e i 0 _ k0 in
    let k2 = turn_in 104 11 267 105 21 277 tt tt tt tt tt tt tt e i 1 _ k1 in
    let k3 = turn_in 105 21 277 106 31 287 tt tt tt tt tt tt tt e i 2 _ k2 in
    let k4 = turn_in 106 31 287 107 41 297 tt tt tt tt tt tt tt e i 3 _ k3 in
    (clamp_in minus_tenth tenth _ (in_finite (fine true 107) (fine false 107) _ tt tt k4.rates) tt tt, in_wider (eighth true 41) (eighth false 297) minus16 f48 tt tt tt tt k4.phases)

-- ---- NaN goes through sums and products
add_nan : (f : Format) (x y : Float) → (x ≡ nan) ⊎ (y ≡ nan) → add f x y ≡ nan
unfolding add
add_nan f x y (inl e) = ap (λ (z : Float). add f z y) e
add_nan f nan y (inr e) = refl
add_nan f (inf s) y (inr e) = ap (λ (z : Float). add f (inf s) z) e
add_nan f (fin s m d) y (inr e) = ap (λ (z : Float). add f (fin s m d) z) e

mul_nan : (f : Format) (x y : Float) → y ≡ nan → mul f x y ≡ nan
unfolding mul
mul_nan f nan y e = refl
mul_nan f (inf s) y e = ap (λ (z : Float). mul f (inf s) z) e
mul_nan f (fin s m d) y e = ap (λ (z : Float). mul f (fin s m d) z) e

rate_nan : (e : Float) (k : ℕ) (m : Moving) → (m.rate ≡ nan) ⊎ (e ≡ nan) → (move_turn e k m).rate ≡ nan
rate_nan e k m (inl h) = add_nan binary32 m.rate (mul binary32 beta e) (inl h)
rate_nan e k m (inr h) = add_nan binary32 m.rate (mul binary32 beta e) (inr (mul_nan binary32 beta e h))

phase_nan : (e : Float) (k : ℕ) (m : Moving) → (m.phase ≡ nan) ⊎ ((move_turn e k m).rate ≡ nan) → (move_turn e k m).phase ≡ nan
phase_nan e k m (inl h) = add_nan binary32 m.phase _ (inl h)
phase_nan e k m (inr h) = add_nan binary32 m.phase _ (inr (add_nan binary32 _ (mul binary32 alpha e) (inl h)))

rates_nan : (e : Float) (n : ℕ) (m : Moving) → m.rate ≡ nan → (turns (move_turn e) n m).rate ≡ nan
unfolding turns
rates_nan e zero m h = h
rates_nan e (suc n) m h = rate_nan e n (turns (move_turn e) n m) (inl (rates_nan e n m h))

phases_nan : (e : Float) (n : ℕ) (m : Moving) → m.phase ≡ nan → (turns (move_turn e) n m).phase ≡ nan
unfolding turns
phases_nan e zero m h = h
phases_nan e (suc n) m h = phase_nan e n (turns (move_turn e) n m) (inl (phases_nan e n m h))

-- a rate that is NaN after the four turns makes the phase NaN too
both_nan : (e : Float) (m : Moving) → (moved_of e m).rate ≡ nan → RateFits (clamp_of (moved_of e m).rate minus_tenth tenth) × PhaseFits (moved_of e m).phase
unfolding moved_of turns
both_nan e m h = (inl (clamp_nan (moved_of e m).rate minus_tenth tenth h), inl (phase_nan e 3 (turns (move_turn e) 3 (record { rate = m.rate; phase = add binary32 m.phase m.rate })) (inr h)))

-- the new rate does not turn on the phase
rate_alone : (e : Float) (m : Moving) → In (one true) (one false) e → In minus_tenth tenth m.rate → In minus_tenth tenth (clamp_of (moved_of e m).rate minus_tenth tenth)
unfolding moved_of turns of_bits le
rate_alone e m i r = (moved_in e (record { rate = m.rate; phase = zero32 }) i r (record { lower = tt; upper = tt })).0

pub moved_fits : (e : Float) (m : Moving) → ErrorFits e → RateFits m.rate → PhaseTurned m.phase → RateFits (clamp_of (moved_of e m).rate minus_tenth tenth) × PhaseFits (moved_of e m).phase
unfolding moved_of turns of_bits
moved_fits e m (inl h) r p = both_nan e m (rate_nan e 3 (turns (move_turn e) 3 (record { rate = m.rate; phase = add binary32 m.phase m.rate })) (inr h))
moved_fits e m (inr i) (inl h) p = both_nan e m (rates_nan e 4 (record { rate = m.rate; phase = add binary32 m.phase m.rate }) h)
moved_fits e m (inr i) (inr r) (inl h) = (inr (rate_alone e m i r), inl (phases_nan e 4 (record { rate = m.rate; phase = add binary32 m.phase m.rate }) (add_nan binary32 m.phase m.rate (inl h))))
moved_fits e m (inr i) (inr r) (inr p) = let k = moved_in e m i r p in (inr k.0, inr k.1)
