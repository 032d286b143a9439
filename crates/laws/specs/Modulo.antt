-- The remainder of an integer, as Rust's `rem_euclid` has it. Definitions only.
use Rattle.std.specs.Prelude.{ℕ, suc, ◌-◌, ◌%◌, ℤ, pos, negsuc}

-- z modulo m: the number below m that differs from z by a multiple of m
unfoldable pub modulo : ℕ → ℤ → ℕ
modulo m (pos n) = n % m
modulo m (negsuc n) = m - suc (n % m)
