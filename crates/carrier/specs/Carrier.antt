-- The carrier loop, as the Rust's `Carrier` has it: f64 but for what the detector gives. Definitions only.
use Rattle.std.specs.Prelude.{◌+◌, ◌%◌, Bool, false, ◌&&◌, leb, pos, Float}
use Rattle.std.specs.Float.{binary32, binary64}
use Rattle.std.specs.Float.Ieee.{of_bits, of_int, add, sub, mul, div, neg, lt}
use Rattle.numbers.specs.Constants.{full_turn}
use Rattle.numbers.specs.Numbers.{clamp_of}
use Rattle.whole.specs.Whole.{to_even, whole_of}
use Rattle.numbers.specs.Root.{sqrt_of}
use Rattle.routines.specs.Circle.{pair_of}
use Rattle.routines.specs.declared.circle.SineCosine.{SineCosine}
use Rattle.complex.specs.declared.Complex32.{Complex32}
use Rattle.complex.specs.Complex.{narrowed_of}
use Rattle.sequence.specs.declared.step.Detected.{Detected}
use Rattle.sequence.specs.Sequence as Sequence
use Rattle.sequence.specs.Admitted as Admitted
use Rattle.carrier.specs.declared.Loop.{Loop}
use Rattle.carrier.specs.declared.CarrierPlace.{CarrierPlace}
use Rattle.carrier.specs.declared.Carried.{Carried}

-- phase, frequency and error zero, not locked
abbrev pub fresh_loop : Loop
fresh_loop = record { phase = of_bits binary64 0; frequency = of_bits binary64 0; alternation = 0; locked = false; error = of_bits binary64 0 }

abbrev pub fresh_place : CarrierPlace
fresh_place = record { turn = fresh_loop; detector = Sequence.fresh_place }

-- alternation 0..7, and the detector's place
unfoldable pub admitted_of : CarrierPlace → Bool
admitted_of c = leb c.turn.alternation 7 && Admitted.admitted_of c.detector

-- ---- the correction

abbrev pub pi : Float
pi = of_bits binary64 0x400921fb54442d18  -- 3.141592653589793

abbrev four64 : Float
four64 = of_bits binary64 0x4010000000000000  -- 4

-- `phase + alternation as f64 * PI / 4.0`
unfoldable pub rotation_of : Loop → Float
rotation_of l = add binary64 l.phase (div binary64 (mul binary64 (of_int binary64 (pos l.alternation)) pi) four64)

-- the sample turned back by an angle, each part narrowed once
unfoldable pub turned_back_of : SineCosine → Complex32 → Complex32
turned_back_of t z = narrowed_of (record {
  real = add binary64 (mul binary64 z.real t.cosine) (mul binary64 z.imaginary t.sine);
  imaginary = sub binary64 (mul binary64 z.imaginary t.cosine) (mul binary64 z.real t.sine);
})

unfoldable pub corrected_of : Loop → Complex32 → Complex32
corrected_of l z = turned_back_of (pair_of (rotation_of l)) z

-- ---- the loop's turn

-- less the nearest number of full turns, a tie to the even one
unfoldable pub unwound_of : Float → Float
unwound_of phase = sub binary64 phase (mul binary64 (whole_of to_even binary64 (div binary64 phase full_turn)) full_turn)

-- the phase error, in radians, that a step counts at most: a wrong decision moves the loop no further
abbrev pub most_error : Float
most_error = of_bits binary32 0x3f000000  -- 0.5

-- kept in -0.5..0.5, a NaN kept
unfoldable pub phase_error_of : Float → Float
phase_error_of e = clamp_of e (neg most_error) most_error

-- how much of the phase error the frequency takes
abbrev pub frequency_step : Float
frequency_step = of_bits binary64 0x3f689374bc6a7efa  -- 0.003

-- radians a symbol, about 497 Hz
abbrev pub most_frequency : Float
most_frequency = of_bits binary64 0x3fe4cccccccccccd  -- 0.65

-- moved by 0.003 of the phase error and kept in -0.65..0.65
unfoldable pub frequency_after_of : Float → Float → Float
frequency_after_of frequency e = clamp_of (add binary64 frequency (mul binary64 frequency_step e)) (neg most_frequency) most_frequency

-- how much of the phase error the phase takes
abbrev pub phase_step : Float
phase_step = of_bits binary64 0x3fc999999999999a  -- 0.2

-- moved by the frequency and 0.2 of the phase error, and unwound
unfoldable pub phase_after_of : Float → Float → Float → Float
phase_after_of phase frequency e = unwound_of (add binary64 phase (add binary64 frequency (mul binary64 phase_step e)))

-- the error is smoothed over some 50 symbols: what it keeps, and what it takes of a new one
abbrev pub error_kept : Float
error_kept = of_bits binary64 0x3fef5c28f5c28f5c  -- 0.98

abbrev pub error_taken : Float
error_taken = of_bits binary64 0x3f947ae147ae147b  -- 0.02

-- 0.98 of the error and 0.02 of the size of what the detector missed by
unfoldable pub error_after_of : Float → Float → Float
error_after_of error power = add binary64 (mul binary64 error_kept error) (mul binary64 error_taken (sqrt_of binary32 power))

-- the smoothed error below which the loop is locked
abbrev pub locked_below : Float
locked_below = of_bits binary64 0x3fd999999999999a  -- 0.4

abbrev pub is_locked : Bool → Float → Bool
is_locked reliable error = reliable && lt error locked_below

-- the loop after a step with this phase error and this power of the error
unfoldable pub loop_after_of : Loop → Float → Float → Bool → Loop
loop_after_of l phase power reliable =
    let e = phase_error_of phase in
    let frequency = frequency_after_of l.frequency e in
    let error = error_after_of l.error power in
    record { phase = phase_after_of l.phase frequency e; frequency = frequency; alternation = (l.alternation + 1) % 8; locked = is_locked reliable error; error = error }

-- ---- a symbol

-- what the detector gives of a symbol, and the loop that has followed it
abbrev pub carried_with : Loop → Detected → Bool → Carried
carried_with l d reliable = record {
  place = record { turn = loop_after_of l d.phase d.power reliable; detector = d.place };
  answer = d.answer;
  soft = d.soft;
  equalized = d.equalized;
}
