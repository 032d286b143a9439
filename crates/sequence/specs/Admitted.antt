-- Whether a detector may be run: the tests of its place and of its parents. Definitions only.
use Rattle.std.specs.Prelude.{ℕ, max, Bool, true, ◌&&◌, List, ltb, leb, get_or, Option, None, Some}
use Rattle.laws.specs.Turns.{turns}
use Rattle.sequence.specs.declared.step.DetectorPlace.{DetectorPlace}

-- previous symbol below 4, where there is one
abbrev pub is_symbol : Option ℕ → Bool
is_symbol None = true
is_symbol (Some s) = ltb s 4

-- the place in the ring of 32; at most 32 steps held
unfoldable pub admitted_of : DetectorPlace → Bool
admitted_of d = (ltb d.write 32 && leb d.filled 32) && is_symbol d.previous

-- stored parents below 64
abbrev pub states_turn : List ℕ → ℕ → Bool → Bool
states_turn parents k before = before && ltb (get_or parents k 0) 64

unfoldable pub are_states : List ℕ → Bool
are_states parents = turns (states_turn parents) 2048 true

-- the largest stored parent
abbrev pub largest_turn : List ℕ → ℕ → ℕ → ℕ
largest_turn parents k most = max most (get_or parents k 0)

unfoldable pub largest_of : List ℕ → ℕ
largest_of parents = turns (largest_turn parents) 2048 0
