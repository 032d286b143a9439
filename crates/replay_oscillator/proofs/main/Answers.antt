-- `main` keeps the counter below 4,096: a fresh oscillator's is 0.
use Rattle.std.proofs.Common.{◌<◌, sym, subst, arith}
use Rattle.oscillator.specs.declared.Oscillator.{Oscillator}
use Rattle.replay_oscillator.proofs.main.Goals as goal

pub loop-init : goal.loop-init
loop-init c = subst (λ (o : Oscillator). o.renormalize < 4096) (sym c.fresh-o.ensures) (omega arith)
