-- `single` meets its contract: at d = 1 a run is one sample, and what it is mixed to is its output.
use native.Mathlib.Omega.{arith}
use mathlib.Core.Path.{ap}
use Rattle.oscillator.specs.declared.Step.{Step}
use Rattle.front.specs.Runs.{number_at, single_is}
use borrow.Author.Rules.{rules}
use Rattle.front.proofs.single.Goals as goal

pub stepped-t-requires : goal.stepped-t-requires
stepped-t-requires c =
    (number_at _ c.requires.numbers _ c.requires.from_in_bounds, search rules)

pub returns : goal.returns
returns c =
    single_is _ _ _ _ c.requires.admitted _ _ _ c.requires.decimation_bound (omega (arith, c.requires))
    (ap (λ (t : Step). t.value) c.stepped-t.ensures) (ap (λ (t : Step). t.oscillator) c.stepped-t.ensures)
