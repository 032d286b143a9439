-- The checks, by their ways out: what the code gives there is what the definition says. Assumes nothing.
use Rattle.std.specs.Prelude.{◌≡◌, Bool, not, ◌||◌, List, ℕ, ◌+◌, ◌*◌, ◌/◌, ◌%◌, ◌^◌, ◌≤◌, ◌<◌, T, ltb, eqb, length, Float, Result, Ok, Err}
use Rattle.std.proofs.Math.Path.{refl}
use Rattle.std.proofs.Common.{sym, ◌∙◌, inl, inr, true≢false, arith, lt-ltb, le-ltb, ltb-false}
use Rattle.std.proofs.Math.Bool.{true, false}
use Rattle.std.specs.Float.{nan, inf, fin}
use Rattle.std.specs.Float.Ieee.{of_bits, lt}
use Rattle.std.specs.Float.Ieee.Scale.{finite}
use Rattle.std.proofs.lemmas.Bool.{eqb-false}
use Rattle.laws.specs.Branches.{or_false, from_false}
use Rattle.laws.specs.Ring.{lt_or_ge}
use Rattle.laws.specs.FloatOrder.{not_lt→le}
use Rattle.numbers.specs.Numbers.{is_finite}
use Rattle.resampler.specs.Admitted.{AdmittedRate, lowest_rate, highest_rate}
use Rattle.checks.specs.declared.refusal.Refusal.{Refusal}
use Rattle.checks.specs.declared.refusal.Refusal.TheVariants.{Rate, Offset, Table, Count, Sample, Room, State, File}
use Rattle.chain.specs.declared.ChainPlace.{ChainPlace}
use Rattle.front.specs.declared.FrontPlace.{FrontPlace}
use Rattle.second.specs.declared.Second.{Second}
use Rattle.samples.specs.declared.Level.{Level}
use Rattle.samples.specs.Samples.{count_of, finite_of, measured_of}
use Rattle.checks.specs.Refusal.{number_of}
use Rattle.checks.specs.Admitted.{state_fits}
use Rattle.checks.specs.Fits.{fits_from}
use Rattle.checks.specs.Checks.{rate_refused, count_refused, room_refused, judged_now, later_of, stated_of}

-- ---- the numbers
-- a refusal's is not 0
pub number_not : (r : Refusal) → eqb (number_of r) 0 ≡ false
number_not Rate = refl
number_not Offset = refl
number_not Table = refl
number_not Count = refl
number_not Sample = refl
number_not Room = refl
number_not State = refl
number_not File = refl

-- ---- the rate
finite_of_lem : (x : Float) → not (is_finite x) ≡ false → T (finite x)
unfolding is_finite
finite_of_lem nan h = absurd (true≢false h)
finite_of_lem (inf s) h = absurd (true≢false h)
finite_of_lem (fin s m e) h = tt

-- a rate that is not refused is one that the resampler takes
pub rate_admitted : (rate : Float) (b : Bool) → b ≡ rate_refused rate → b ≡ false → AdmittedRate rate
unfolding rate_refused of_bits
rate_admitted rate b e f =
    let o = or_false (not (is_finite rate)) (lt rate lowest_rate || lt highest_rate rate) (sym e ∙ f) in
    let p = or_false (lt rate lowest_rate) (lt highest_rate rate) o.1 in
    let F = finite_of_lem rate o.0 in
    record {
      range = record {
        lower = not_lt→le rate lowest_rate F tt (from_false (lt rate lowest_rate) p.0);
        upper = not_lt→le highest_rate rate tt F (from_false (lt highest_rate rate) p.1);
      };
    }

-- ---- how many
pub count_many : (total floats : ℕ) → 65536 < floats / 2 → true ≡ count_refused total floats
unfolding count_refused
count_many total floats l = rw (lt-ltb 65536 (floats / 2) l)

pub count_few : (total floats : ℕ) → floats / 2 ≤ 65536 → (eqb (floats % 2) 1 || ltb (2 ^ 52) (total + floats / 2)) ≡ count_refused total floats
unfolding count_refused
count_few total floats l = rw (le-ltb 65536 (floats / 2) l)

even_of : (n : ℕ) → eqb (n % 2) 1 ≡ false → n ≡ 2 * (n / 2)
even_of n h = elim (lt_or_ge (n % 2) 1) [
  | inl l ↦ omega arith
  | inr g ↦ absurd (eqb-false (n % 2) 1 h (omega arith))
]

-- a count that is not refused
pub record Counted (total floats : ℕ) : Type 0 where
  pub few : floats / 2 ≤ 65536
  pub even : floats ≡ 2 * (floats / 2)
  pub total_in : total + floats / 2 ≤ 2 ^ 52

pub counted : (total floats : ℕ) (b : Bool) → b ≡ count_refused total floats → b ≡ false → Counted total floats
unfolding count_refused
counted total floats b e f =
    let o = or_false (ltb 65536 (floats / 2)) (eqb (floats % 2) 1 || ltb (2 ^ 52) (total + floats / 2)) (sym e ∙ f) in
    let p = or_false (eqb (floats % 2) 1) (ltb (2 ^ 52) (total + floats / 2)) o.1 in
    record { few = ltb-false 65536 (floats / 2) o.0; even = even_of floats p.0; total_in = ltb-false (2 ^ 52) (total + floats / 2) p.1 }

pub short_floats : (total floats : ℕ) → Counted total floats → floats ≤ 131072
short_floats total floats c = let a = c.few in let b = c.even in omega arith

-- ---- checks 3, 4, 6, 5
module _ (total arm : ℕ) (xs : List Float) (table dibits reliabilities : ℕ) where
  pub later_table : table < 32 * arm → judged_now (Err Table) ≡ later_of total arm xs table dibits reliabilities
  unfolding later_of
  later_table l = rw (lt-ltb table (32 * arm) l)

  module _ (a : Bool) (roomy : 32 * arm ≤ table) (ae : a ≡ count_refused total (length xs)) where
    pub later_count : a ≡ true → judged_now (Err Count) ≡ later_of total arm xs table dibits reliabilities
    unfolding later_of
    later_count t = rw (le-ltb table (32 * arm) roomy, ← ae, t)

    module _ (b : Bool) (af : a ≡ false) (be : b ≡ room_refused (count_of xs) dibits reliabilities) where
      pub later_room : b ≡ true → judged_now (Err Room) ≡ later_of total arm xs table dibits reliabilities
      unfolding later_of
      later_room t = rw (le-ltb table (32 * arm) roomy, ← ae, af, ← be, t)

      module _ (l : Level) (bf : b ≡ false) (le : l ≡ measured_of xs) where
        pub later_accepted : l.finite ≡ true → judged_now (Ok l.overload) ≡ later_of total arm xs table dibits reliabilities
        unfolding later_of measured_of
        later_accepted t = go (finite_of xs) refl
          where
            go : (f : Bool) → finite_of xs ≡ f → judged_now (Ok l.overload) ≡ later_of total arm xs table dibits reliabilities
            go true h = rw (le-ltb table (32 * arm) roomy, ← ae, af, ← be, bf, le, h)
            go false h = let z : l.finite ≡ false = rw (le, h) in absurd (true≢false (sym t ∙ z))

        pub later_sample : l.finite ≡ false → judged_now (Err Sample) ≡ later_of total arm xs table dibits reliabilities
        unfolding later_of measured_of
        later_sample t = go (finite_of xs) refl
          where
            go : (f : Bool) → finite_of xs ≡ f → judged_now (Err Sample) ≡ later_of total arm xs table dibits reliabilities
            go true h = let z : l.finite ≡ true = rw (le, h) in absurd (true≢false (sym z ∙ t))
            go false h = rw (le-ltb table (32 * arm) roomy, ← ae, af, ← be, bf, h)

-- ---- check 7
module _ (total : ℕ) (front : FrontPlace) (chain : ChainPlace) (second : Second) (parents ancestors : List ℕ) (b : Bool) (be : b ≡ state_fits total front chain second parents ancestors) where
  pub judged_ranges : b ≡ true → (total ≤ 2 ^ 52) × (front.resampler.arm ≤ 576)
  judged_ranges t =
      let k = fits_from total front chain second parents ancestors (sym be ∙ t) in
      (k.total_in, k.front_fits.resampler.arm_high)

  module _ (xs : List Float) (table dibits reliabilities : ℕ) where
    pub judged_state : b ≡ false → judged_now (Err State) ≡ stated_of total front chain second parents ancestors xs table dibits reliabilities
    unfolding stated_of
    judged_state f = rw (← be, f)

    pub judged_later : (c : Result ℕ Refusal) → b ≡ true → judged_now c ≡ later_of total front.resampler.arm xs table dibits reliabilities
        → judged_now c ≡ stated_of total front chain second parents ancestors xs table dibits reliabilities
    unfolding stated_of later_of
    judged_later c t e = rw (← be, t) e
