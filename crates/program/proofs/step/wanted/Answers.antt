-- `program::step::wanted` meets its contract.
use Rattle.program.specs.StepLaws.{wanted_samples}
use Rattle.program.proofs.step.wanted.Goals as goal

pub returns-in-Samples : goal.returns-in-Samples
returns-in-Samples c = wanted_samples _ _ _ c.in-Samples.is c.next_of.ensures
