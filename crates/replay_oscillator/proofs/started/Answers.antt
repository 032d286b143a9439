-- `started` keeps the counter below 4,096.
use Rattle.std.proofs.Common.{◌<◌, sym, subst, arith}
use Rattle.oscillator.specs.declared.Oscillator.{Oscillator}
use Rattle.replay_oscillator.proofs.started.Goals as goal

pub returns-then-kind-eq0 : goal.returns-then-kind-eq0
returns-then-kind-eq0 c = subst (λ (o : Oscillator). o.renormalize < 4096) (sym c.fresh.ensures) (omega arith)
