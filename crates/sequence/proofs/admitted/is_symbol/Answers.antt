-- `is_symbol` meets its contract: a previous symbol that is unknown passes, another below 4.
use Rattle.sequence.specs.AdmittedLaws.{symbol_is}
use Rattle.sequence.proofs.admitted.is_symbol.Goals as goal

pub returns : goal.returns
returns c = symbol_is _ _ c.in-Some.is
