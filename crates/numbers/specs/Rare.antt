-- Whether narrowing meets a rare case. Definitions only.
use Rattle.std.specs.Prelude.{ℕ, Bool, ◌||◌, nat_le, nat_lt}

-- a magnitude's bits are below those of 2 ^ -126, or reach those of what rounds to an f32 infinity, (2 ^ 25 - 1) * 2 ^ 103
abbrev pub rare : ℕ → Bool
rare m = nat_lt m 0x3810000000000000 || nat_le 0x47effffff0000000 m
