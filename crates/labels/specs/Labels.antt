-- A dibit as its profile labels it, and what it adds to a count. Definitions only.
use Rattle.std.specs.Prelude.{ℕ, ◌+◌, min, Bool, false, cond, [], ◌∷◌, eqb, ℤ, pos, negsuc, get_or, Option, None, Some}
use Rattle.answers.specs.declared.walk.Dibit.{Dibit}

-- profile 1; every other number acts as 0
abbrev pub rearranges : ℤ → Bool
rearranges (pos n) = eqb n 1
rearranges (negsuc n) = false

-- rearranged labels: the higher bit is the old lower one, the lower bit the two combined
abbrev pub relabelled_of : ℕ → ℕ
relabelled_of dibit = get_or (0 ∷ 3 ∷ 1 ∷ 2 ∷ []) dibit 2

-- so the reliabilities are the old lower one, and the lesser of the two
abbrev pub labelled_of : Bool → Option Dibit → Option Dibit
labelled_of rearranged None = None
labelled_of rearranged (Some d) = cond rearranged (Some (record { value = relabelled_of d.value; high = d.low; low = min d.high d.low })) (Some d)

-- 2^53: as many dibits as 2^52 samples, the most that are taken, can give
abbrev pub most_symbols : ℕ
most_symbols = 9007199254740992

-- a dibit is one more where it counts
abbrev pub counted_of : ℕ → Option Dibit → Bool → ℕ
counted_of n None counts = n
counted_of n (Some d) counts = cond counts (n + 1) n
