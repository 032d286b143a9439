-- `chain_fits_lem` meets its contract: it is the conjunction of what the four places' own tests answer.
use Rattle.checks.specs.AdmittedTests.{chain_is}
use Rattle.checks.proofs.admitted.chain_fits.Goals as goal

pub returns : goal.returns
returns c = chain_is _ _ _ _ _ c.is_admitted.ensures c.is_admitted-2.ensures c.is_admitted-3.ensures c.is_admitted-4.ensures
