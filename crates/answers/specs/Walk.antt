-- The history of 32 steps and the walk back: which parents are read, the dibit decided, and its reliabilities. Definitions only.
use Rattle.std.specs.Prelude.{ℕ, ◌+◌, ◌-◌, ◌*◌, ◌/◌, ◌%◌, ◌<◌, cond, List, [], ◌∷◌, eqb, ltb, get_or, Option, None, Some}
use Rattle.laws.specs.Turns.{turns}
use Rattle.laws.specs.Places.{laid}
use Rattle.answers.specs.declared.soft.Soft.{Soft}
use Rattle.answers.specs.declared.walk.Dibit.{Dibit}
use Rattle.answers.specs.declared.walk.Walked.{Walked}
use Rattle.answers.specs.Observed.{agreed_of}

-- ---- parents, 32 rows of 64

-- a step's parents, put in the row `write`
unfoldable pub stored_of : List ℕ → ℕ → List ℕ → List ℕ
stored_of parents write row = laid (λ s. get_or row s 0) (64 * write) 64 parents

-- the parent of the state s, k steps before the one stored at `newest`
abbrev pub parent_before : List ℕ → ℕ → ℕ → ℕ → ℕ
parent_before parents newest k s = get_or parents (64 * ((newest + 32 - k) % 32) + s) 0

-- 31 parents back from the state `best` of the step stored at `newest`
unfoldable pub state_before_of : List ℕ → ℕ → ℕ → ℕ
state_before_of parents newest best = turns (parent_before parents newest) 31 best

-- every stored parent is a state
pub record Table (parents : List ℕ) : Type 0 where
  pub below : (i : ℕ) → i < 2048 → get_or parents i 0 < 64

-- ---- the answer

-- the previous symbol, where there is one, is a symbol
abbrev pub Earlier : Option ℕ → Type 0
Earlier None = Unit
Earlier (Some k) = k < 4

-- a turn by 0, 1, 2, 3 quarters
abbrev pub dibit_of : ℕ → ℕ
dibit_of quarters = get_or (0 ∷ 1 ∷ 3 ∷ 2 ∷ []) quarters 0

-- the reliabilities of the higher and of the lower bit, each 0 where its sign is not the decided bit
abbrev pub with_record_of : ℕ → Option Soft → Dibit
with_record_of value None = record { value = value; high = 0; low = 0 }
with_record_of value (Some s) = record {
  value = value;
  high = agreed_of s.high_sign (eqb (value / 2 % 2) 1) s.high_reliability;
  low = agreed_of s.low_sign (eqb (value % 2) 1) s.low_reliability;
}

-- dibit 0 with [0, 0]
abbrev pub zero_dibit : Dibit
zero_dibit = record { value = 0; high = 0; low = 0 }

-- the dibit is the difference of two symbols; the first has none before it
abbrev pub decided_of : ℕ → Option ℕ → Option Soft → Dibit
decided_of current None soft = zero_dibit
decided_of current (Some last) soft = with_record_of (dibit_of ((current + 4 - last) % 4)) soft

-- silent until 32 steps are held
unfoldable pub walked_of : List ℕ → ℕ → ℕ → ℕ → Option ℕ → Option Soft → Walked
walked_of parents newest filled best previous oldest =
    cond (ltb filled 31)
    (record { previous = previous; answer = None })
    (record { previous = Some (state_before_of parents newest best % 4); answer = Some (decided_of (state_before_of parents newest best % 4) previous oldest) })
