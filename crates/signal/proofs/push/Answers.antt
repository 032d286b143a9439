-- `signal::push` meets its contract: point, place and both planes are the fields of `pushed_of`.
use Rattle.signal.specs.Signal.{pushed_of}
use Rattle.signal.proofs.push.Goals as goal

pub returns : goal.returns
unfolding pushed_of
returns c = cc
