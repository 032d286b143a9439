-- A read's two runs, up to the ring's end and from its beginning, are one way round the ring. Assumes nothing.
use Rattle.std.specs.Prelude.{◌≡◌, ℕ, ◌+◌, ◌-◌, ◌*◌, ◌%◌, ◌<◌, ◌≤◌, min, Bool, true, ◌&&◌, T, List, length, from_bits, slice_index_or, Float}
use Rattle.std.proofs.Common.{sym, ap, ◌∙◌, subst, arith}
use Rattle.std.specs.Float.{nan, binary64}
use Rattle.std.specs.Float.Ieee.{le}
use Rattle.std.specs.Float.Ieee.Fits.{and_l, and_r}
use Rattle.std.specs.Float.Ieee.Bits.{is_true}
use denote.Floats.{passes}
use Rattle.laws.specs.Turns.{turns, turns_plus, turns_same}
use Rattle.signal.specs.declared.plain.Power.{Power}
use Rattle.signal.specs.Signal.{WrittenPoints, points_from, power64, error_at, written_of}
use Rattle.signal.specs.Plain.{least_amplitude, most_amplitude, is_plain, common_of, PlainAmplitude, PlainRun, PlainRound, sum_step, write_step, run_of, round_of}
use Rattle.signal.specs.Powers.{no_nan_of, no_power, power_step, plain_of, PowerOf}
use Rattle.signal.proofs.Bounds.{powers_to, no_nan_sum, told, all_plain}
use Rattle.signal.proofs.Loops.{summed_from, written_from}

module _ (start count first : ℕ) (inside : start < 1024) (most : count ≤ 1024) (is_first : first ≡ min count (1024 - start)) where
  early : (k : ℕ) → k < first → start + k ≡ (start + k) % 1024
  early k l = omega arith

  late : (k : ℕ) → k < count - first → 0 + k ≡ (start + (first + k)) % 1024
  late k l = omega arith

  pub round_runs : {A : Type 0} (g : ℕ → ℕ → A → A) (a : A) → turns (run_of g 0 first) (count - first) (turns (run_of g start 0) first a) ≡ turns (round_of g start) count a
  round_runs g a =
      let all : first + (count - first) ≡ count = omega arith in
      ap (turns (run_of g 0 first) (count - first)) (turns_same (run_of g start 0) (round_of g start) first a (λ k b l. ap (λ (p : ℕ). g p (0 + k) b) (early k l) ∙ ap (λ (i : ℕ). g ((start + k) % 1024) i b) (nothing_more k)))
      ∙ turns_same (run_of g 0 first) (λ (k : ℕ). round_of g start (first + k)) (count - first) (turns (round_of g start) first a) (λ k b l. ap (λ (p : ℕ). g p (first + k) b) (late k l))
      ∙ turns_plus (round_of g start) first (count - first) a
      ∙ ap (λ (n : ℕ). turns (round_of g start) n a) all
    where
      nothing_more : (k : ℕ) → 0 + k ≡ k
      nothing_more k = omega arith

  -- ---- the parts of both runs are plain where those round the ring are
  module _ (re im : List Float) (P : PlainRound re im start count) where
    pub plain_early : PlainRun re im start first
    plain_early = record {
      real = λ k l. subst (λ (p : ℕ). is_plain (slice_index_or re p nan) ≡ true) (sym (early k l)) (P.real k (omega arith));
      imaginary = λ k l. subst (λ (p : ℕ). is_plain (slice_index_or im p nan) ≡ true) (sym (early k l)) (P.imaginary k (omega arith));
    }

    pub plain_late : PlainRun re im 0 (count - first)
    plain_late = record {
      real = λ k l. subst (λ (p : ℕ). is_plain (slice_index_or re p nan) ≡ true) (sym (late k l)) (P.real (first + k) (omega arith));
      imaginary = λ k l. subst (λ (p : ℕ). is_plain (slice_index_or im p nan) ≡ true) (sym (late k l)) (P.imaginary (first + k) (omega arith));
    }

  -- ---- what both runs write
  module _ (re im : List Float) (a : Float) (l : List Float) where
    pub written_runs : (middle errors : Float) (half output : List Float) → count * 2 ≤ length l
        → middle ≡ turns (run_of (sum_step re im (error_at a)) start 0) first (from_bits binary64 0)
        → half ≡ turns (run_of (write_step re im a) start 0) first l
        → errors ≡ turns (run_of (sum_step re im (error_at a)) 0 first) (count - first) middle
        → output ≡ turns (run_of (write_step re im a) 0 first) (count - first) half
        → ◌≡◌ {A = WrittenPoints} (record { errors = errors; output = output }) (written_of a (points_from re im start count) l)
    written_runs middle errors half output room is_middle is_half is_errors is_output =
        written_from re im start a count l errors output room
        (is_errors ∙ ap (turns (run_of (sum_step re im (error_at a)) 0 first) (count - first)) is_middle ∙ round_runs (sum_step re im (error_at a)) (from_bits binary64 0))
        (is_output ∙ ap (turns (run_of (write_step re im a) 0 first) (count - first)) is_half ∙ round_runs (write_step re im a) l)

  -- ---- the powers of both runs
  pub power_runs : (re im : List Float) (middle w : Power)
      → middle ≡ turns (run_of (power_step re im) start 0) first no_power
      → w ≡ turns (run_of (power_step re im) 0 0) (count - first) middle
      → PowerOf re im start count w
  power_runs re im middle w is_middle is_last =
      let e : w ≡ powers_to re im start count = is_last ∙ ap (turns (run_of (power_step re im) 0 first) (count - first)) is_middle ∙ round_runs (power_step re im) no_power in
      record {
        sum = ap (λ (p : Power). p.sum) e ∙ (no_nan_sum re im start count).same ∙ ap no_nan_of (summed_from re im start power64 count);
        plain = λ h.
            let P = all_plain re im start count (told (powers_to re im start count) (ap plain_of (sym e) ∙ h)) in
            record { real = λ k l. (P k l).0; imaginary = λ k l. (P k l).1 };
      }

-- ---- the test of the common case
module _ (plain : Bool) (a : Float) (h : common_of plain a ≡ true) where
  abbrev first_two : T (plain && le least_amplitude a)
  first_two = and_l (plain && le least_amplitude a) (le a most_amplitude) (passes _ h)

  pub common_plain : plain ≡ true
  common_plain = is_true plain (and_l plain (le least_amplitude a) first_two)

  pub plain_amplitude : PlainAmplitude a
  plain_amplitude = record {
    lower = and_r plain (le least_amplitude a) first_two;
    upper = and_r (plain && le least_amplitude a) (le a most_amplitude) (passes _ h);
  }
