-- `circle::turns` meets its contract: the product is in range, so that the cast is the definition's.
use Rattle.routines.specs.Reached.{turns_asks}
use Rattle.routines.specs.Circle.{turns_of}
use Rattle.routines.proofs.circle.turns.Goals as goal

pub truncating_f64_to_u64-requires : goal.truncating_f64_to_u64-requires
truncating_f64_to_u64-requires c = let bounds = turns_asks c.args.a c.requires.not_negative c.requires.in_reach in record { lower_bound = bounds.0; upper_bound = bounds.1 }

pub returns : goal.returns
unfolding turns_of
returns c = c.truncating_f64_to_u64.ensures
