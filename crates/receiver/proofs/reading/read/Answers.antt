-- `read` meets its contract: an admitted state's view is read, any other state is refused.
use Rattle.receiver.specs.Ways.{view_ranges, reading_accepted, reading_refused}
use Rattle.receiver.proofs.reading.read.Goals as goal

pub returns-then-not-is_admitted : goal.returns-then-not-is_admitted
returns-then-not-is_admitted c = reading_refused _ _ _ c.is_admitted.ensures c.if-not-is_admitted.true

pub read-p-requires : goal.read-p-requires
read-p-requires c =
    let b = view_ranges c.args.r.now _ c.is_admitted.ensures c.if-not-is_admitted.false in
    record { head_bound = b.0; count_bound = b.1 }

pub returns : goal.returns
returns c = reading_accepted _ _ _ _ _ c.is_admitted.ensures c.if-not-is_admitted.false c.read-p.ensures
