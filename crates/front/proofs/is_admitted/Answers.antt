-- `is_admitted` meets its contract: the three tests of oscillator, decimator and resampler, all of them.
use Rattle.front.specs.AdmittedLaws.{admitted_is}
use Rattle.front.proofs.is_admitted.Goals as goal

pub returns : goal.returns
returns c =
    admitted_is c.args.p _ _ _ c.is_admitted.ensures c.is_admitted-2.ensures c.is_admitted-3.ensures
