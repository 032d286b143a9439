-- The fresh second stream's floats, place by place, and its ranges. Assumes nothing.
use Rattle.std.specs.Prelude.{◌≡◌, refl, ℕ, ◌-◌, ◌/◌, ◌%◌, ◌<◌, Bool, true, false, cond, List, [], ◌++◌, ltb, eqb, length, get_or, drop, replicate, Float}
use Rattle.std.proofs.Common.{ap, sym, ◌∙◌, subst, arith, append-nil, drop_of_length-le}
use Rattle.std.proofs.lemmas.List.{length-replicate}
use Rattle.laws.specs.Places.{upto, upto_at, upto_same}
use Rattle.numbers.specs.Constants.{zero32}
use Rattle.complex.specs.declared.Complex32.{Complex32}
use Rattle.complex.specs.Complex.{zero_pair}
use Rattle.least_squares.specs.Lanes.{pairs_of, inverses_of}
use Rattle.least_squares.specs.LeastSquares.{table_of, prior_of}
use Rattle.sequence.specs.Sequence.{fresh_real}
use Rattle.sequence.specs.Skeleton.{fresh_skeleton}
use Rattle.drift_detector.specs.Ranges.{Sized}
use Rattle.drift_detector.specs.Detector.{fresh_memory}
use Rattle.drift_detector.specs.Theorems as Detector
use Rattle.second.specs.Second.{joined_of, second_of, fresh_second, fresh_floats}
use Rattle.second.specs.Ranges.{Ranged}
use Rattle.second.specs.Parts.{join_split}
use Rattle.second.specs.Prior.{doubt_at, prior_at, number_at}

-- ---- the inverses
abbrev pair_on : ℕ → ℕ → Complex32
pair_on i j = cond (eqb i j) (record { real = doubt_at i; imaginary = zero32 }) zero_pair

prior_is : (e : ℕ) → e < 64 → get_or prior_of e zero_pair ≡ pair_on (e / 8) (e % 8)
unfolding prior_of table_of
prior_is e h = upto_at (λ e. pair_on (e / 8) (e % 8)) 64 e zero_pair h

real_of : (b : Bool) (x : Float) → (cond b (record { real = x; imaginary = zero32 }) zero_pair).real ≡ cond b x zero32
real_of true x = refl
real_of false x = refl

imaginary_of : (b : Bool) (x : Float) → (cond b (record { real = x; imaginary = zero32 }) zero_pair).imaginary ≡ zero32
imaginary_of true x = refl
imaginary_of false x = refl

number_is : (n : ℕ) → number_at n ≡ cond (ltb n 4096) (get_or prior_of (n / 4 % 64) zero_pair).real (get_or prior_of ((n - 4096) / 4 % 64) zero_pair).imaginary
number_is n =
    let e = n / 4 % 64 in
    let real : prior_at (e / 8) (e % 8) ≡ (get_or prior_of e zero_pair).real =
    sym (ap (λ (z : Complex32). z.real) (prior_is e (omega arith)) ∙ real_of (eqb (e / 8) (e % 8)) (doubt_at (e / 8))) in
    let f = (n - 4096) / 4 % 64 in
    let imaginary : zero32 ≡ (get_or prior_of f zero_pair).imaginary =
    sym (ap (λ (z : Complex32). z.imaginary) (prior_is f (omega arith)) ∙ imaginary_of (eqb (f / 8) (f % 8)) (doubt_at (f / 8))) in
    ap (λ (x : Float). cond (ltb n 4096) x zero32) real
    ∙ ap (λ (x : Float). cond (ltb n 4096) (get_or prior_of e zero_pair).real x) imaginary

pub inverses_are : (l : List Float) → l ≡ upto number_at 8192 → l ≡ fresh_memory.inverse
unfolding fresh_memory inverses_of pairs_of
inverses_are l e = e ∙ upto_same number_at _ 8192 (λ n h. number_is n)

-- ---- all floats in one array
pub fresh_put : (real inverse exit : List Float) → real ≡ fresh_real → inverse ≡ fresh_memory.inverse
    → exit ≡ joined_of (record { channels = record { real = real; imaginary = replicate 256 zero32 }; drift = replicate 512 zero32; inverse = inverse }) (replicate 64 zero32) ++ drop 9280 (replicate 9280 zero32)
    → exit ≡ fresh_floats
unfolding fresh_floats fresh_memory
fresh_put real inverse exit r v e =
    let none : drop 9280 (replicate 9280 zero32) ≡ [] = drop_of_length-le (replicate 9280 zero32) {i = 9280} (rw (length-replicate 9280 zero32) (omega arith)) in
    e
    ∙ ap (λ (t : List Float). joined_of (record { channels = record { real = real; imaginary = replicate 256 zero32 }; drift = replicate 512 zero32; inverse = inverse }) (replicate 64 zero32) ++ t) none
    ∙ append-nil _
    ∙ ap (λ (t : List Float). joined_of (record { channels = record { real = t; imaginary = replicate 256 zero32 }; drift = replicate 512 zero32; inverse = inverse }) (replicate 64 zero32)) r
    ∙ ap (λ (t : List Float). joined_of (record { channels = record { real = fresh_real; imaginary = replicate 256 zero32 }; drift = replicate 512 zero32; inverse = t }) (replicate 64 zero32)) v

-- ---- FRESH IS IN RANGE
pub fresh_ranged : Ranged (second_of fresh_second fresh_floats (replicate 2048 0))
unfolding fresh_second fresh_floats fresh_skeleton
fresh_ranged =
    let d = Detector.fresh_ranged in
    let split = join_split fresh_memory (replicate 64 zero32) d.memory d.skeleton.costs_size in
    record {
      alternation = omega arith;
      detector = record {
        skeleton = record { place = d.skeleton.place; table = d.skeleton.table; costs_size = ap length split.1 ∙ d.skeleton.costs_size; parents_size = d.skeleton.parents_size };
        memory = subst Sized (sym split.0) d.memory;
      };
    }
