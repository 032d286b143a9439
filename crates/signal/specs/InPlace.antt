-- Narrowing in place: the last 29 digits of a pattern rounded off. Definitions only.
use Rattle.std.specs.Prelude.{ℕ, ◌+◌, ◌*◌, ◌/◌, ◌%◌}

abbrev pub in_place : ℕ → ℕ
in_place b = (b + 268435455 + b / 536870912 % 2) / 536870912 * 536870912
