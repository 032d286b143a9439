-- Clock recovery, step by step as the Rust has it: a ring of 256 samples, the phase brought into range by two loops, the test whether a symbol's windows are in,
-- the place after a symbol by a third loop, and the loop's update. Definitions only.
use Rattle.std.specs.Prelude.{ℕ, ◌+◌, ◌-◌, ◌*◌, ◌%◌, Bool, true, false, cond, not, ◌&&◌, ◌||◌, List, ℤ, pos, negsuc, ◌+ℤ◌, ◌-ℤ◌, Option, Some, None, ◌==◌, from_bits, nat_le, nat_lt, slice_set, unsigned_abs, Float}
use Rattle.std.specs.Float.{binary32}
use Rattle.std.specs.Float.Ieee.{add, sub, mul, lt, to_signed}
use Rattle.laws.specs.Turns.{turns, until}
use Rattle.numbers.specs.Constants.{zero32}
use Rattle.numbers.specs.Numbers.{clamp_of}
use Rattle.whole.specs.Whole.{whole_of, downward}
use Rattle.complex.specs.declared.Complex32.{Complex32}
use Rattle.filter.specs.Filter.{Windows, matched_of}
use Rattle.clock.specs.declared.ClockPlace.{ClockPlace}
use Rattle.clock.specs.declared.Due.{Due}
use Rattle.clock.specs.declared.Stepped.{Stepped}
use Rattle.clock.specs.declared.phase.Arm.{Arm}

abbrev pub sixteen : Float
sixteen = from_bits binary32 0x41800000  -- 16

abbrev pub fresh_place : ClockPlace
fresh_place = record { start = 0; count = 0; position = 0; warm = false; phase = sixteen; rate = zero32 }

-- ---- the phase brought into range: its arm, and by how many samples the window moves
pub record Turning : Type 0 where
  pub phase : Float
  pub arm : ℤ
  pub shift : ℤ

abbrev pub thirty_two : Float
thirty_two = from_bits binary32 0x42000000  -- 32

-- `phase.floor() as i32`
unfoldable pub arm_number_of : Float → ℤ
arm_number_of phase = to_signed 31 (whole_of downward binary32 phase)

abbrev pub too_high : ℤ → Bool
too_high (pos a) = nat_le 32 a
too_high (negsuc a) = false

abbrev pub negative : ℤ → Bool
negative (pos a) = false
negative (negsuc a) = true

abbrev pub lowered : Turning → Turning
lowered t = record { phase = sub binary32 t.phase thirty_two; arm = t.arm -ℤ pos 32; shift = t.shift +ℤ pos 1 }

abbrev pub raised : Turning → Turning
raised t = record { phase = add binary32 t.phase thirty_two; arm = t.arm +ℤ pos 32; shift = t.shift -ℤ pos 1 }

-- `while arm >= 32`, `while arm < 0`: a turn moves the arm by 32, so its size is turns enough
unfoldable pub lowered_of : Turning → Turning
lowered_of t = until (λ (z : Turning). not (too_high z.arm)) lowered (unsigned_abs t.arm) t

unfoldable pub raised_of : Turning → Turning
raised_of t = until (λ (z : Turning). not (negative z.arm)) raised (unsigned_abs t.arm) t

unfoldable pub turning_of : Float → Turning
turning_of phase = raised_of (lowered_of (record { phase = phase; arm = arm_number_of phase; shift = pos 0 }))

-- the same as the code holds it, without a sign: from an admitted phase the arm comes into 0..31 and the shift is -1, 0 or 1, held one higher
unfoldable pub ranged_of : Float → Arm
ranged_of phase = record { phase = (turning_of phase).phase; arm = unsigned_abs (turning_of phase).arm; ahead = unsigned_abs (pos 1 +ℤ (turning_of phase).shift) }

-- ---- after a symbol: `while position > 12` drops a sample
abbrev pub drop_one : ClockPlace → ClockPlace
drop_one c = record { start = (c.start + 1) % 256; count = c.count - 1; position = c.position - 1; warm = c.warm; phase = c.phase; rate = c.rate }

unfoldable pub dropped_of : ClockPlace → ClockPlace
dropped_of c = until (λ (z : ClockPlace). not (nat_lt 12 z.position)) drop_one c.position c

-- `max(0)`
abbrev pub at_least0 : ℤ → ℕ
at_least0 (pos a) = a
at_least0 (negsuc a) = 0

-- ---- what a warm clock does that has taken its sample
-- where its first window begins, counted from the ring's start
unfoldable pub first_of : ClockPlace → ℤ
first_of c = pos c.position +ℤ (turning_of c.phase).shift

abbrev pub waiting_of : ClockPlace → Stepped
waiting_of c = record { place = c; due = None }

abbrev pub symbol_of : ClockPlace → Stepped
symbol_of c = record {
  place = dropped_of (record { start = c.start; count = c.count; position = at_least0 (first_of c +ℤ pos 4); warm = true; phase = (turning_of c.phase).phase; rate = c.rate });
  due = Some (record { arm = unsigned_abs (turning_of c.phase).arm; from = (c.start + unsigned_abs (first_of c)) % 256 });
}

-- 21 windows of 33 samples, two apart, have to be in; until then nothing changes
unfoldable pub timed_warm_of : ClockPlace → Stepped
timed_warm_of c = cond (negative (first_of c) || nat_lt c.count (unsigned_abs (first_of c) + 33 + 2 * 20)) (waiting_of c) (symbol_of c)

-- ---- a sample
abbrev pub taken_of : ClockPlace → ClockPlace
taken_of c = record { start = c.start; count = c.count + 1; position = c.position; warm = c.warm; phase = c.phase; rate = c.rate }

abbrev pub warmed_of : ClockPlace → ClockPlace
warmed_of c = record { start = c.start; count = c.count; position = 6; warm = true; phase = c.phase; rate = c.rate }

-- a cold clock waits for 83 samples
unfoldable pub timed_of : ClockPlace → Stepped
timed_of c = cond c.warm (timed_warm_of c) (cond (nat_lt c.count (6 + 33 + 4 + 2 * 20)) (waiting_of c) (timed_warm_of (warmed_of c)))

-- what is due comes to: without a symbol the windows stay as they are; a symbol's are matched with its arm's taps, from its place in the ring on
abbrev pub windows_of : Option Due → List Float → List Float → List Float → List Float → Windows → Windows
windows_of None taps derivatives real imaginary before = before
windows_of (Some symbol) taps derivatives real imaginary before = matched_of taps derivatives real imaginary symbol.arm symbol.from

-- a sample into the ring: place and what is due, and the ring
pub record Ticked : Type 0 where
  pub stepped : Stepped
  pub real : List Float
  pub imaginary : List Float

unfoldable pub ticked_of : ClockPlace → Complex32 → List Float → List Float → Ticked
ticked_of c z re im = record { stepped = timed_of (taken_of c); real = slice_set re ((c.start + c.count) % 256) z.real; imaginary = slice_set im ((c.start + c.count) % 256) z.imaginary }

-- a whole step: the windows too
pub record ClockStep : Type 0 where
  pub stepped : Stepped
  pub real : List Float
  pub imaginary : List Float
  pub windows : Windows

abbrev pub with_windows : Stepped → List Float → List Float → List Float → List Float → Windows → ClockStep
with_windows s taps derivatives real imaginary before = record { stepped = s; real = real; imaginary = imaginary; windows = windows_of s.due taps derivatives real imaginary before }

unfoldable pub stepped_of : List Float → List Float → ClockPlace → Complex32 → List Float → List Float → Windows → ClockStep
stepped_of taps derivatives c sample real imaginary before =
    with_windows (timed_of (taken_of c)) taps derivatives (slice_set real ((c.start + c.count) % 256) sample.real) (slice_set imaginary ((c.start + c.count) % 256) sample.imaginary) before

-- ---- the loop's update by a timing error
-- With the bandwidth BW = 0.01 and the denominator 1 + 128 BW + BW BW, both f32: alpha = 256 BW / denominator, beta = 4 BW BW / denominator
abbrev pub alpha : Float
alpha = from_bits binary32 0x3f8fb687  -- 1.1227578

abbrev pub beta : Float
beta = from_bits binary32 0x3937f3e0  -- 0.00017543099

pub record Moving : Type 0 where
  pub rate : Float
  pub phase : Float

abbrev pub move_turn : Float → ℕ → Moving → Moving
move_turn error k m = let rate = add binary32 m.rate (mul binary32 beta error) in record { rate = rate; phase = add binary32 m.phase (add binary32 rate (mul binary32 alpha error)) }

unfoldable pub moved_of : Float → Moving → Moving
moved_of error m = turns (move_turn error) 4 (record { rate = m.rate; phase = add binary32 m.phase m.rate })

-- the f32 next to 0.1, and to -0.1
abbrev pub tenth : Float
tenth = from_bits binary32 0x3dcccccd  -- 0.1

abbrev pub minus_tenth : Float
minus_tenth = from_bits binary32 0xbdcccccd  -- -0.1

unfoldable pub updated_of : ClockPlace → Float → ClockPlace
updated_of c error =
    let m = moved_of error (record { rate = c.rate; phase = c.phase }) in
    record { start = c.start; count = c.count; position = c.position; warm = c.warm; phase = m.phase; rate = clamp_of m.rate minus_tenth tenth }

-- ---- the places that may be stepped, as docs/SPECIFICATION.md has them
-- NaN, or in low..high
abbrev pub within : Float → Float → Float → Bool
within x low high = not (lt x low) && not (lt high x)

-- cold: position 0, count 0..82; warm: position 5..12, count 0..100 + position
unfoldable pub counts_fit : ClockPlace → Bool
counts_fit c = cond c.warm (nat_le c.position 12 && (nat_le 5 c.position && nat_le c.count (100 + c.position))) (c.position == 0 && nat_le c.count 82)

abbrev pub minus16 : Float
minus16 = from_bits binary32 0xc1800000  -- -16

abbrev pub f48 : Float
f48 = from_bits binary32 0x42400000  -- 48

-- phase in -16..48, rate in -0.1..0.1
abbrev pub admitted_of : ClockPlace → Bool
admitted_of c = nat_lt c.start 256 && (counts_fit c && (within c.phase minus16 f48 && within c.rate minus_tenth tenth))
