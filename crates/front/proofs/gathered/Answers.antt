-- `gathered` meets its contract: a sample into the integrators, and the counter of turns stays below 4,096.
use Rattle.std.proofs.Common.{ap}
use Rattle.oscillator.specs.declared.Step.{Step}
use Rattle.oscillator.specs.Laws.{still_below}
use Rattle.front.proofs.gathered.Goals as goal

pub returns-clause-kept : goal.returns-clause-kept
returns-clause-kept c = still_below c.args.g.oscillator _ c.requires.renormalize_bound (ap (λ (p : Step). p.oscillator) c.mix-z.ensures)
