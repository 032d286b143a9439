-- `main` keeps the counter below 4,096.
use Rattle.std.proofs.Common.{◌<◌}
use Rattle.replay_oscillator.proofs.main.Given as goal

abbrev pub invariant-loop : goal.invariant-loop
invariant-loop l = l.o.renormalize < 4096
