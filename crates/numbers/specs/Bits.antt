-- Bytes as a number, and 64 bits as a signed number. Definitions only.
use Rattle.std.specs.Prelude.{ℕ, ◌+◌, ◌-◌, ◌*◌, ◌^◌, cond, List, [], ◌∷◌, ℤ, pos, negsuc, nat_lt}

-- the lowest byte first
abbrev pub little_endian : List ℕ → ℕ
little_endian [] = 0
little_endian (b ∷ bs) = b + 256 * little_endian bs

-- 64 bits read as a signed number: from 2 ^ 63 on, u stands for u - 2 ^ 64
abbrev pub signed_of : ℕ → ℤ
signed_of u = cond (nat_lt u (2 ^ 63)) (pos u) (negsuc (2 ^ 64 - 1 - u))

-- the 64 bits of a signed number
abbrev pub unsigned_of : ℤ → ℕ
unsigned_of (pos n) = n
unsigned_of (negsuc k) = 2 ^ 64 - 1 - k
