-- The limit as the code works on it: plane by plane, place by place. Definitions that only the crate's own contracts cite.
use Rattle.std.specs.Prelude.{ℕ, ◌%◌, cond, List, get_or, Float}
use Rattle.std.specs.Float.{nan, binary32}
use Rattle.std.specs.Float.Ieee.{mul, lt}
use Rattle.channels.specs.Stripes.{column}
use Rattle.lms_tracker.specs.Tracker.{most_power, gain_of}

-- a part of a tap, of taps with this norm
unfoldable pub limited_part : Float → Float → Float
limited_part norm x = cond (lt most_power norm) (mul binary32 x (gain_of norm)) x

abbrev pub limited_at : List Float → List Float → ℕ → Float
limited_at norms l i = limited_part (get_or norms (i % 64) nan) (get_or l i nan)

-- the four places of one state
unfoldable pub scaled_column : Float → ℕ → List Float → List Float
scaled_column gain = column nan (λ t s x. mul binary32 x gain) 4

unfoldable pub limit_column : Float → ℕ → List Float → List Float
limit_column norm = column nan (λ t s x. limited_part norm x) 4
