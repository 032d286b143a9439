-- The peak keeper, as the Rust's symbol chain has it. Definitions only.
use Rattle.std.specs.Prelude.{ℕ, ◌+◌, ◌%◌, ◌<◌, ◌≤◌, Bool, ◌&&◌, cond, List, Some, None, ltb, leb, get_or, set, Float}
use Rattle.std.specs.Float.{nan, binary32}
use Rattle.std.specs.Float.Ieee.{of_bits, add, mul, div, lt, le}
use Rattle.laws.specs.Turns.{turns}
use Rattle.laws.specs.Places.{upto}
use Rattle.numbers.specs.Constants.{zero32, one32}
use Rattle.numbers.specs.Numbers.{abs_of, min_of, max_of}
use Rattle.complex.specs.declared.Complex32.{Complex32}
use Rattle.complex.specs.Complex.{scaled_of}
use Rattle.peak.specs.declared.KeeperPlace.{KeeperPlace}
use Rattle.peak.specs.declared.Kept.{Kept}

abbrev pub fresh_place : KeeperPlace
fresh_place = record { head = 0; fill = 0; reference = zero32 }

-- ---- the places that may be run: head below 64, fill at most 64, any reference
abbrev pub admitted_of : KeeperPlace → Bool
admitted_of p = ltb p.head 64 && leb p.fill 64

-- the same as facts
pub record Admitted (p : KeeperPlace) : Type 0 where
  pub head : p.head < 64
  pub fill : p.fill ≤ 64

-- ---- the peak
abbrev pub smaller_share : Float
smaller_share = of_bits binary32 0x3ecccccd  -- 0.4

-- the larger part and 0.4 of the smaller, each passing over a NaN
unfoldable pub envelope_of : Float → Float → Float
unfolding max_of min_of abs_of add mul of_bits
envelope_of real imaginary = add binary32 (max_of (abs_of real) (abs_of imaginary)) (mul binary32 smaller_share (min_of (abs_of real) (abs_of imaginary)))

unfoldable pub envelopes_of : List Float → List Float → List Float
unfolding upto envelope_of
envelopes_of real imaginary = upto (λ k. envelope_of (get_or real k nan) (get_or imaginary k nan)) 64

-- the larger; an e that is NaN is passed over
unfoldable pub top_of : Float → Float → Float
unfolding lt
top_of peak e = cond (lt peak e) e peak

-- the largest envelope, from 0 up, in the order of the places
abbrev pub peak_turn : List Float → ℕ → Float → Float
peak_turn es k peak = max_of peak (get_or es k nan)

unfoldable pub peak_of : List Float → Float
unfolding turns max_of of_bits
peak_of es = turns (peak_turn es) 64 (of_bits binary32 0)

-- ---- the reference, the gain and whether the value is reliable
-- what a reference keeps from value to value: 0.38 of it is left after a second of 19,200
abbrev pub decay : Float
decay = of_bits binary32 0x3f7ffcb9  -- 0.99995

-- the share of the reference that a reliable peak reaches
abbrev pub share : Float
share = of_bits binary32 0x3da3d70a  -- 0.08

-- a peak that is not above this is none
abbrev pub faintest : Float
faintest = of_bits binary32 0x2b8cbccc  -- 1e-12

-- the peak, or the old reference a little less
unfoldable pub followed_of : Float → Float → Float
unfolding max_of mul of_bits
followed_of peak reference = max_of peak (mul binary32 reference decay)

unfoldable pub floor_of : Float → Float
unfolding mul of_bits
floor_of reference = mul binary32 reference share

unfoldable pub reliable_of : Float → Float → Bool
unfolding lt le of_bits
reliable_of peak floor = lt faintest peak && le floor peak

unfoldable pub gain_of : Float → Float → Float
unfolding max_of div of_bits
gain_of peak floor = div binary32 one32 (max_of (max_of peak floor) faintest)

-- ---- one value kept
-- the values, part by part
pub record Ring : Type 0 where
  pub real : List Float
  pub imaginary : List Float

abbrev pub put_in : Ring → ℕ → Complex32 → Ring
put_in ring head z = record { real = set ring.real head z.real; imaginary = set ring.imaginary head z.imaginary }

abbrev pub oldest_of : Ring → ℕ → Complex32
oldest_of ring head = record { real = get_or ring.real head nan; imaginary = get_or ring.imaginary head nan }

-- once 64 values are in: the reference follows the peak, and the oldest value is given at its gain
unfoldable pub levelled_of : ℕ → Float → Complex32 → Float → Kept
unfolding followed_of floor_of gain_of reliable_of
levelled_of head reference oldest peak =
    let r = followed_of peak reference in
    let floor = floor_of r in
    record { place = record { head = head; fill = 64; reference = r }; level = Some (record { value = scaled_of oldest (gain_of peak floor); reliable = reliable_of peak floor }) }

-- what a value leaves: place and level, and the ring
pub record KeeperStep : Type 0 where
  pub kept : Kept
  pub ring : Ring

unfoldable pub kept_of : KeeperPlace → Complex32 → Ring → KeeperStep
unfolding peak_of envelopes_of levelled_of
kept_of place z ring =
    let next = put_in ring place.head z in
    let head = (place.head + 1) % 64 in
    record {
      kept =
          cond (ltb place.fill 63)
          (record { place = record { head = head; fill = place.fill + 1; reference = place.reference }; level = None })
          (levelled_of head place.reference (oldest_of next head) (peak_of (envelopes_of next.real next.imaginary)));
      ring = next;
    }
