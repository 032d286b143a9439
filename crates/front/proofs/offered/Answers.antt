-- `offered` meets its contract: nothing is stored where nothing came; else the value goes into the ring and what it makes due into the row.
use mathlib.Core.Path.{refl}
use Rattle.front.specs.Laws.{offered_none, offered_some, offer_none, offer_some}
use Rattle.front.proofs.offered.Goals as goal

pub returns-in_default : goal.returns-in_default
returns-in_default c = record { same = offered_none _ _ _ c.in_default.is; kept = offer_none _ _ c.requires.ring_admitted }

pub returns : goal.returns
returns c =
    let resampled = c.resampled-p in
    let laid = c.laid-now_made in
    record { same = offered_some _ _ _ _ _ _ c.in-Some.is resampled.ensures.same laid.ensures; kept = offer_some _ _ _ _ _ resampled.ensures.kept refl laid.ensures }
