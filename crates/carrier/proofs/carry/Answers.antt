-- `carry` meets its contract: the loop by the detector's phase and power, and the rest handed on.
use Rattle.carrier.proofs.carry.Goals as goal

pub returns : goal.returns
returns c = rw c.loop_after-turn.ensures
