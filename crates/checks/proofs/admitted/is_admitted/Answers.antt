-- `is_admitted` meets its contract: it is the conjunction of the totals' test, the front's, the chain's, the parents' and the second tracker's.
use Rattle.checks.specs.AdmittedTests.{state_is}
use Rattle.checks.proofs.admitted.is_admitted.Goals as goal

pub returns : goal.returns
returns c =
    state_is _ _ _ _ _ _ _ _ _ _ _ c.totals_fit-a.ensures c.is_admitted-b.ensures c.chain_fits-c.ensures c.are_states-d.ensures c.is_admitted-e.ensures
