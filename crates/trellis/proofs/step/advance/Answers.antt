-- `step::advance` meets its contract: what `extend` leaves has no NaN and no -0, so `cheapest` finds the best state, and its cost is taken off all.
use Rattle.trellis.specs.Laws.{advance_near, advance_asks, advance_is}
use Rattle.trellis.proofs.step.advance.Goals as goal

pub cheapest-b-requires : goal.cheapest-b-requires
cheapest-b-requires c = advance_asks _ _ _ _ _ c.extend.ensures.reads.0 c.extend.ensures.values

pub returns : goal.returns
returns c =
    let arrived = c.extend.ensures.reads in record { reads = advance_is _ _ _ _ _ _ _ _ _ _ arrived.0 arrived.1 arrived.2 arrived.3 c.cheapest-b.ensures c.take_off.ensures; near = advance_near _ _ _ _ _ _ _ arrived.1 c.cheapest-b.ensures }
