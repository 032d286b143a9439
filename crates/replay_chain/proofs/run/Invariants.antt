-- `replay_chain::run` is safe: each row leaves a chain that may be run.
use Rattle.chain.specs.Ranges.{Ranged}
use Rattle.replay_chain.specs.Sound.{state_now}
use Rattle.replay_chain.proofs.run.Given as goal

abbrev pub invariant-loop : goal.invariant-loop
invariant-loop l = Ranged (state_now l.r)
