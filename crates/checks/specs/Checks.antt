-- The checks of each call, in their order. Definitions only.
use Rattle.std.specs.Prelude.{ℕ, ◌+◌, ◌*◌, ◌/◌, ◌%◌, ◌^◌, Bool, cond, not, ◌||◌, List, [], ◌∷◌, eqb, ltb, length, Float, Result, Ok, Err}
use Rattle.std.specs.Float.{binary64}
use Rattle.std.specs.Float.Ieee.{of_bits, add, div, lt, le}
use Rattle.numbers.specs.Constants.{two64}
use Rattle.numbers.specs.Numbers.{abs_of, is_finite}
use Rattle.resampler.specs.Admitted.{lowest_rate, highest_rate}
use Rattle.resampler.specs.Dimensions.{sized_of}
use Rattle.chain.specs.declared.ChainPlace.{ChainPlace}
use Rattle.front.specs.declared.FrontPlace.{FrontPlace}
use Rattle.second.specs.declared.Second.{Second}
use Rattle.samples.specs.Samples.{count_of, finite_of, overload_of}
use Rattle.checks.specs.declared.refusal.Refusal.{Refusal}
use Rattle.checks.specs.Refusal.{number_of, Check, first_of}
use Rattle.checks.specs.Admitted.{state_fits}

-- ---- a setup

-- not finite, below 9,600 or above 20,000,000
unfoldable pub rate_refused : Float → Bool
rate_refused rate = not (is_finite rate) || (lt rate lowest_rate || lt highest_rate rate)

-- the channel's edge from its middle, in hertz
abbrev pub channel_edge : Float
channel_edge = of_bits binary64 0x40b0_6800_0000_0000  -- 4200

-- not finite, or abs(offset) + 4200 >= rate / 2 in f64
unfoldable pub offset_refused : Float → Float → Bool
offset_refused rate offset = not (is_finite offset) || le (div binary64 rate two64) (add binary64 (abs_of offset) channel_edge)

-- a lent table shorter than 32 x arm length
abbrev pub table_refused : Float → ℕ → Bool
table_refused rate room = ltb room (32 * (sized_of rate).arm)

abbrev pub setup_checks : Float → Float → ℕ → List Check
setup_checks rate offset room =
    record { number = 1; applies = rate_refused rate } ∷ record { number = 2; applies = offset_refused rate offset } ∷ record { number = 3; applies = table_refused rate room } ∷ []

-- ---- a reading, and an enabling of the second tracker

-- what is looked at is whether the state may be run
abbrev pub reading_checks : Bool → List Check
reading_checks admitted = record { number = 7; applies = not admitted } ∷ []

abbrev pub enabling_checks : Bool → List Check
enabling_checks admitted = reading_checks admitted

-- ---- a block

-- odd number of floats, over 65,536 samples, or total taken would pass 2^52
unfoldable pub count_refused : ℕ → ℕ → Bool
count_refused total floats = ltb 65536 (floats / 2) || (eqb (floats % 2) 1 || ltb (2 ^ 52) (total + floats / 2))

-- for n samples, dibit room below 2n+4 or reliability room below 4n+8 bytes
abbrev pub room_refused : ℕ → ℕ → ℕ → Bool
room_refused n dibits reliabilities = ltb dibits (2 * n + 4) || ltb reliabilities (4 * n + 8)

-- of an admitted state: these concern its total and its arm length alone
abbrev pub later_checks : ℕ → ℕ → List Float → ℕ → ℕ → ℕ → List Check
later_checks total arm xs table dibits reliabilities =
    record { number = 3; applies = ltb table (32 * arm) } ∷ record { number = 4; applies = count_refused total (length xs) }
    ∷ record { number = 6; applies = room_refused (count_of xs) dibits reliabilities } ∷ record { number = 5; applies = not (finite_of xs) } ∷ []

abbrev pub block_checks : ℕ → FrontPlace → ChainPlace → Second → List ℕ → List ℕ → List Float → ℕ → ℕ → ℕ → List Check
block_checks total front chain second parents ancestors xs table dibits reliabilities =
    record { number = 7; applies = not (state_fits total front chain second parents ancestors) } ∷ later_checks total front.resampler.arm xs table dibits reliabilities

-- the refusal's number or 0, and in an accepted block the overload
pub record Judged : Type 0 where
  pub number : ℕ
  pub overload : ℕ

abbrev pub judged_now : Result ℕ Refusal → Judged
judged_now (Ok overload) = record { number = 0; overload = overload }
judged_now (Err r) = record { number = number_of r; overload = 0 }

abbrev pub judged_by : ℕ → List Float → Judged
judged_by number xs = record { number = number; overload = cond (eqb number 0) (overload_of xs) 0 }

unfoldable pub later_of : ℕ → ℕ → List Float → ℕ → ℕ → ℕ → Judged
later_of total arm xs table dibits reliabilities = judged_by (first_of (later_checks total arm xs table dibits reliabilities)) xs

-- by what the checks look at of a state
unfoldable pub stated_of : ℕ → FrontPlace → ChainPlace → Second → List ℕ → List ℕ → List Float → ℕ → ℕ → ℕ → Judged
stated_of total front chain second parents ancestors xs table dibits reliabilities = judged_by (first_of (block_checks total front chain second parents ancestors xs table dibits reliabilities)) xs
