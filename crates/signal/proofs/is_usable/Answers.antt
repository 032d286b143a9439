-- `signal::is_usable` meets its contract: its three tests, put together, are the definition's.
use Rattle.signal.proofs.is_usable.Goals as goal

pub returns : goal.returns
returns c = cc
