-- `story::decimated::unlike_fresh` is safe: both counters are below d.
use Rattle.std.proofs.Common.{◌<◌, sym, subst, arith}
use Rattle.decimator.specs.Decimator.{fresh_of}
use Rattle.decimator.specs.declared.Decimator.{Decimator}
use Rattle.story.proofs.decimated.unlike_fresh.Goals as goal

pub beside-requires : goal.beside-requires
beside-requires c = record { counter_lt_decimation = c.if-d.true; counter_lt_decimation_2 = subst (λ (d : Decimator). d.counter < d.decimation) (sym c.fresh.ensures) (unfold fresh_of in omega (arith, c.if-d.true)) }
