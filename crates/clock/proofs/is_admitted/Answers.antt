-- `clock::is_admitted` meets its contract: its tests, put together with what `counts_fit` answers, are the definition's.
use lib.Ieee.{of_bits, neg}
use Rattle.clock.specs.AdmittedLaws.{admitted_is}
use Rattle.clock.proofs.is_admitted.Goals as goal

pub returns : goal.returns
unfolding of_bits neg
returns c = admitted_is _ _ c.counts_fit.ensures
