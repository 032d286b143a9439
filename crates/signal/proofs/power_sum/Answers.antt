-- `signal::power_sum` meets its contract: the points up to the ring's end and those from its beginning are the points round the ring.
use Rattle.signal.proofs.Windows.{power_runs}
use Rattle.signal.proofs.power_sum.Goals as goal

pub returns : goal.returns
returns c = power_runs c.args.start c.args.count _ c.requires.start_bound c.requires.count_bound c.min-first.ensures _ _ _ _ c.power_run-early.ensures c.power_run.ensures
