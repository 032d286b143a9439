-- `circle::reduced` meets its contract: the quarter turns are taken off in three parts.
use Rattle.routines.proofs.CircleCode.{reduced_made}
use Rattle.routines.proofs.circle.reduced.Goals as goal

pub returns : goal.returns
returns c = reduced_made c.args.a _ _ c.turns-n.ensures c.nearest_u64_to_f64-k.ensures
