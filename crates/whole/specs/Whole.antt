-- A float to a whole number, by three ways to round. Definitions only.
use Rattle.std.specs.Prelude.{ℕ, ◌+◌, ◌*◌, ◌/◌, ◌%◌, min, Bool, true, false, Float}
use Rattle.std.specs.Float.{nan, inf, fin, Format}
use Rattle.std.specs.Float.Ieee.{up, down, round}
use Rattle.std.specs.Float.Ieee.Nearest.{closest}

-- ---- how the magnitude a / b, b above 0, of a value with the sign s is made whole
-- toward minus infinity
abbrev pub downward : Bool → ℕ → ℕ → ℕ
downward false a b = a / b
downward true a b = a / b + min 1 (a % b)

-- to the nearest, a tie away from zero
abbrev pub away : Bool → ℕ → ℕ → ℕ
away s a b = (a * 2 + b) / (b * 2)

-- to the nearest, a tie to the even one
abbrev pub to_even : Bool → ℕ → ℕ → ℕ
to_even s a b = closest a b

-- the sign stays, of a zero too
unfoldable pub whole_of : (Bool → ℕ → ℕ → ℕ) → Format → Float → Float
unfolding round
whole_of g f nan = nan
whole_of g f (inf s) = inf s
whole_of g f (fin s m e) = round f s (g s (m * up e) (down e)) 1
