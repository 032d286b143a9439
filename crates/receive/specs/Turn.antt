-- A turn of the sample program: some bytes came, and the step was taken over them. Definitions only.
use Rattle.std.specs.Prelude.{ℕ, ◌≤◌, ◌≡◌, Bool, List, length, replicate, Float}
use Rattle.program.specs.declared.step.Program.{Program}
use Rattle.program.specs.Program.{Ran, wanted_of, step_of, table_of, gone_on}

-- the program that a step leaves; its text ends where it says
abbrev pub left_by : Ran → Program
left_by x = record { stage = x.stage; receiver = x.receiver; overload = x.overload; end = x.text.place }

-- the program after the step over the bytes that came, its text from the start of a buffer on
abbrev pub stepped_by : Program → List ℕ → List Float → Program
stepped_by p came table = left_by (step_of p.stage p.receiver p.overload came table (replicate 24606 0))

-- from p and the table lent to q and the table as it is then: for some bytes, at most as many as p waits for, the step over them; a
-- program whose text could not be written is stopped
pub record Turn (p : Program) (table : List Float) (q : Program) (after : List Float) : Type 0 where
  pub came : List ℕ
  pub few : length came ≤ wanted_of p.stage
  pub written : Bool
  pub same : q ≡ gone_on (stepped_by p came table) written
  pub made : after ≡ table_of p.stage came table
