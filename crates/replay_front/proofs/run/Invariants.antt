-- `run` keeps the front admitted.
use Rattle.front.specs.Admitted.{Admitted}
use Rattle.replay_front.proofs.run.Given as goal

abbrev pub invariant-loop : goal.invariant-loop
invariant-loop l = Admitted l.t.place
