-- `xolindap_sine_cosine` meets its contract.
use Rattle.linked_routines.proofs.xolindap_sine_cosine.Goals as goal

pub returns : goal.returns
returns c = cc
