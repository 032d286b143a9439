-- `digest` keeps the counter below d.
use Prim.Native.Nat.{◌<◌}
use Rattle.replay_decimator.proofs.digest.Given as goal

abbrev pub invariant-loop : goal.invariant-loop
invariant-loop l = l.d.counter < l.d.decimation
