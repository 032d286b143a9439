-- A turn from the step over the first bytes of a buffer. Assumes nothing.
use Rattle.std.specs.Prelude.{◌≡◌, Bool, List, ℕ, ◌≤◌, length, take, replicate, Float}
use Rattle.std.proofs.Common.{ap, ◌∙◌, arith, length-take}
use Rattle.program.specs.declared.step.Stage.{Stage}
use Rattle.program.specs.declared.step.Program.{Program}
use Rattle.program.specs.Program.{Ran, wanted_of, ran_now, step_of, table_of, gone_on}
use Rattle.receive.specs.Turn.{left_by, Turn}

-- the bytes lent are the first of a buffer, as many as are waited for
pub waited_room : (s : Stage) (want : ℕ) (buffer bytes : List ℕ) → length bytes ≡ length (take want buffer) → want ≡ wanted_of s → length bytes ≤ wanted_of s
waited_room s want buffer bytes k e = let h = length-take want buffer in omega arith

module _ (p q : Program) (table after : List Float) (got : ℕ) (bytes text : List ℕ) (within : got ≤ length bytes) (room : length bytes ≤ wanted_of p.stage)
    (same : ran_now q text ≡ step_of p.stage p.receiver p.overload (take got bytes) table (replicate 24606 0))
    (made : after ≡ table_of p.stage (take got bytes) table) where
  few : length (take got bytes) ≤ wanted_of p.stage
  few = let e = length-take got bytes in omega arith

  pub turned_is : (x : Program) (written : Bool) → x ≡ gone_on q written → Turn p table x after
  turned_is x written e = record { came = take got bytes; few = few; written = written; same = e ∙ ap (λ (y : Ran). gone_on (left_by y) written) same; made = made }
