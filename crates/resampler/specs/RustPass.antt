-- The Rust's pass in its own terms (its `process`, from the ring on): signed positions, an open loop that returns by its test, a place in the ring that is a remainder and comes round tap by tap, and
-- the outputs in the order of its sink. Definitions only.
use Rattle.std.specs.Prelude.{ℕ, ◌+◌, ◌%◌, Bool, cond, List, [], ◌∷◌, ◌++◌, length, ℤ, pos, ◌+ℤ◌, ◌-ℤ◌, ◌==◌, int_lt, slice_index_or, slice_set, Float}
use mathlib.Core.List.{foldl}
use Rattle.std.specs.Float.{nan, binary32, binary64}
use Rattle.std.specs.Float.Ieee.{of_int, to_signed, to_unsigned, add, sub, mul}
use Rattle.laws.specs.Turns.{until}
use Rattle.laws.specs.Modulo.{modulo}
use Rattle.whole.specs.Whole.{whole_of, away, downward}
use Rattle.complex.specs.Complex.{zero_pair}
use Rattle.complex.specs.declared.Complex32.{Complex32}
use Rattle.resampler.specs.declared.pass.Resampler.{Resampler}
use Rattle.resampler.specs.Pass.{arm_at, pushed_of}
use Rattle.resampler.specs.Design.{arms64}

-- ---- where an output lies: a signed position, and the phase of its arm
pub record Spot : Type 0 where
  pub position : ℤ
  pub phase : ℕ

-- with the floor as it is cast to i64, and the phase as it is cast to usize
abbrev pub spot_from : Float → ℤ → Spot
spot_from x position =
    let phase = to_unsigned 64 (whole_of away binary64 (mul binary64 (sub binary64 x (of_int binary64 position)) arms64)) in
    cond (phase == 32) (record { position = position +ℤ pos 1; phase = 0 }) (record { position = position; phase = phase })

unfoldable pub spot_of : Float → Spot
spot_of x = spot_from x (to_signed 63 (whole_of downward binary64 x))

-- first = position - half
abbrev pub first_of : Resampler → Spot → ℤ
first_of q s = s.position -ℤ pos q.half

-- arms[phase]
abbrev pub taps_of : Resampler → List Float → Spot → List Float
taps_of q table s = arm_at q.arm table s.phase

-- (write + first - input_index).rem_euclid(ring.len())
abbrev pub offset_of : Resampler → Spot → ℕ
offset_of q s = modulo (q.arm + 16) (pos q.write +ℤ first_of q s -ℤ pos q.index)

-- ---- one output: for each tap in turn, the value at the offset times it, and the offset one on round the ring
pub record Summing : Type 0 where
  pub offset : ℕ
  pub sum : Complex32

abbrev pub tapped : ℕ → List Float → List Float → Summing → Float → Summing
tapped size real imaginary s tap = record {
  offset = (s.offset + 1) % size;
  sum = record {
    real = add binary32 s.sum.real (mul binary32 (slice_index_or real s.offset nan) tap);
    imaginary = add binary32 s.sum.imaginary (mul binary32 (slice_index_or imaginary s.offset nan) tap);
  };
}

unfoldable pub summed_of : Resampler → List Float → List Float → List Float → Spot → Complex32
summed_of q table real imaginary s = (foldl (tapped (q.arm + 16) real imaginary) (record { offset = offset_of q s; sum = zero_pair }) (taps_of q table s)).sum

-- ---- the loop: where the next output lies, and what went to the sink
pub record Loop : Type 0 where
  pub next : Float
  pub sink : List Complex32

-- first + taps.len() > input_index
abbrev pub is_beyond : Resampler → List Float → Spot → Bool
is_beyond q table s = int_lt (pos q.index) (first_of q s +ℤ pos (length (taps_of q table s)))

abbrev pub returns : Resampler → List Float → Loop → Bool
returns q table l = is_beyond q table (spot_of l.next)

abbrev pub loop_turn : Resampler → List Float → List Float → List Float → Loop → Loop
loop_turn q table real imaginary l = record { next = add binary64 l.next q.step; sink = l.sink ++ (summed_of q table real imaginary (spot_of l.next) ∷ []) }

-- let run for n turns
unfoldable pub loop_of : ℕ → Resampler → List Float → List Float → List Float → Loop
loop_of n q table real imaginary = until (returns q table) (loop_turn q table real imaginary) n (record { next = q.next; sink = [] })

-- ---- a value in: the state after it, both planes of the ring, and what went to the sink
pub record Processed : Type 0 where
  pub resampler : Resampler
  pub real : List Float
  pub imaginary : List Float
  pub sink : List Complex32

unfoldable pub processed_of : ℕ → Resampler → Complex32 → List Float → List Float → List Float → Processed
processed_of n r v table real imaginary =
    let xs = slice_set real r.write v.real in
    let ys = slice_set imaginary r.write v.imaginary in
    let q = pushed_of r in
    let l = loop_of n q table xs ys in
    record { resampler = record { arm = q.arm; half = q.half; step = q.step; index = q.index; next = l.next; write = q.write }; real = xs; imaginary = ys; sink = l.sink }
