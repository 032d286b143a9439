-- A value into the ring, and the outputs that it makes due. Definitions only.
use Rattle.std.specs.Prelude.{ℕ, ◌+◌, ◌-◌, ◌*◌, ◌/◌, ◌%◌, ◌^◌, Bool, false, cond, ◌&&◌, List, [], ◌∷◌, take, drop, pos, ◌==◌, from_bits, nat_le, nat_lt, slice_index_or, slice_set, Float}
use Rattle.std.specs.Float.{nan, binary32, binary64}
use Rattle.std.specs.Float.Ieee.{of_int, to_unsigned, add, sub, mul, le}
use Rattle.laws.specs.Turns.{turns, until}
use Rattle.laws.specs.Ring.{latest}
use Rattle.whole.specs.Whole.{whole_of, away, downward}
use Rattle.complex.specs.Complex.{zero_pair}
use Rattle.complex.specs.declared.Complex32.{Complex32}
use Rattle.resampler.specs.Design.{arms64}
use Rattle.resampler.specs.declared.pass.Resampler.{Resampler}
use Rattle.resampler.specs.declared.pass.Place.{Place}
use Rattle.resampler.specs.declared.pass.Delivery.{Delivery}
use Rattle.resampler.specs.declared.pass.Passed.{Passed}

-- ---- where an output lies

-- the whole part of x, and 32 times the rest to the nearest, a half away from zero; phase 32 becomes 0 at the next position
unfoldable pub placed_of : Float → Place
placed_of x =
    let position = to_unsigned 64 (whole_of downward binary64 x) in
    let phase = to_unsigned 64 (whole_of away binary64 (mul binary64 (sub binary64 x (of_int binary64 (pos position))) arms64)) in
    cond (phase == 32) (record { position = position + 1; phase = 0 }) (record { position = position; phase = phase })

-- an output there needs a value that is not yet in
abbrev pub waiting_of : Resampler → Place → Bool
waiting_of r p = nat_lt r.index (p.position + (r.arm - r.half))

-- ---- an output: the arm of the phase over the last c values, the oldest first

-- the last c values of a plane of the ring, the oldest first
abbrev pub window_of : Resampler → List Float → List Float
window_of r plane = latest nan (r.arm + 16) plane r.write r.arm

-- the taps of an arm in the table
abbrev pub arm_at : ℕ → List Float → ℕ → List Float
arm_at c table phase = take c (drop (phase * c) table)

abbrev pub sum_turn : List Float → List Float → List Float → ℕ → Complex32 → Complex32
sum_turn taps xs ys i s = record {
  real = add binary32 s.real (mul binary32 (slice_index_or xs i nan) (slice_index_or taps i nan));
  imaginary = add binary32 s.imaginary (mul binary32 (slice_index_or ys i nan) (slice_index_or taps i nan));
}

unfoldable pub sum_of : ℕ → List Float → List Float → List Float → Complex32
sum_of c taps xs ys = turns (sum_turn taps xs ys) c zero_pair

abbrev pub filtered_of : Resampler → List Float → List Float → List Float → ℕ → Complex32
filtered_of r table real imaginary phase = sum_of r.arm (arm_at r.arm table phase) (window_of r real) (window_of r imaginary)

-- ---- the pass: outputs until one needs a value that is not yet in, at most two

abbrev pub start_of : Float → Delivery
start_of x = record { count = 0; first = zero_pair; second = zero_pair; next = x }

unfoldable pub emitted_of : Delivery → Float → Complex32 → Delivery
emitted_of d step v =
    cond (d.count == 0)
    (record { count = d.count + 1; first = v; second = d.second; next = add binary64 d.next step })
    (record { count = d.count + 1; first = d.first; second = v; next = add binary64 d.next step })

abbrev pub is_done : Resampler → Delivery → Bool
is_done r d = waiting_of r (placed_of d.next)

abbrev pub pass_turn : Resampler → List Float → List Float → List Float → Delivery → Delivery
pass_turn r table real imaginary d = emitted_of d r.step (filtered_of r table real imaginary (placed_of d.next).phase)

unfoldable pub delivered_of : Resampler → List Float → List Float → List Float → Delivery
delivered_of r table real imaginary = until (is_done r) (pass_turn r table real imaginary) 2 (start_of r.next)

-- ---- a value in

abbrev pub pushed_of : Resampler → Resampler
pushed_of r = record { arm = r.arm; half = r.half; step = r.step; index = r.index + 1; next = r.next; write = (r.write + 1) % (r.arm + 16) }

abbrev pub passed_of : Resampler → Delivery → Passed
passed_of r d = record {
  resampler = record { arm = r.arm; half = r.half; step = r.step; index = r.index; next = d.next; write = r.write };
  count = d.count;
  first = d.first;
  second = d.second;
}

-- the answer, and both planes of the ring
pub record Sampled : Type 0 where
  pub passed : Passed
  pub real : List Float
  pub imaginary : List Float

unfoldable pub resampled_of : Resampler → Complex32 → List Float → List Float → List Float → Sampled
resampled_of r v table real imaginary =
    let xs = slice_set real r.write v.real in
    let ys = slice_set imaginary r.write v.imaginary in
    let q = pushed_of r in
    record { passed = passed_of q (delivered_of q table xs ys); real = xs; imaginary = ys }

-- the outputs as a list
abbrev pub values_of : Passed → List Complex32
values_of p = take p.count (p.first ∷ p.second ∷ [])

-- ---- may this resampler be run

-- where the next output lies at the least
abbrev pub least_next : Float
least_next = from_bits binary64 0x0000_0000_0000_0000  -- 0

-- values an output: 9,600 and 384,000 values a second over 19,200
abbrev pub least_step : Float
least_step = from_bits binary64 0x3fe0_0000_0000_0000  -- 0.5

abbrev pub most_step : Float
most_step = from_bits binary64 0x4034_0000_0000_0000  -- 20

-- the arm length 14 to 576, half of it, and a place in the ring of c + 16
unfoldable pub sizes_ok : Resampler → Bool
sizes_ok r = cond (nat_lt 576 r.arm) false (nat_le 14 r.arm && r.half == r.arm / 2 && nat_lt r.write (r.arm + 16))

-- at most 2^52 values came in; the step; and the next output from 0 to 600 past those values
unfoldable pub ranges_ok : Resampler → Bool
ranges_ok r =
    cond (nat_lt (2 ^ 52) r.index) false
    (le least_step r.step && le r.step most_step && le least_next r.next && le r.next (of_int binary64 (pos (r.index + 600))))

-- both, and nothing is pending
unfoldable pub admitted_of : Resampler → Bool
admitted_of r = cond (sizes_ok r) (cond (ranges_ok r) (waiting_of r (placed_of r.next)) false) false
