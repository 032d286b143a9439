-- `filter::sums::tapped_four` meets its contract: it is what the four calls answer, in the definition's record.
use Rattle.filter.proofs.Laws.{four_of_lem}
use Rattle.filter.proofs.sums.tapped_four.Goals as goal

pub returns : goal.returns
returns c =
    let is_first = c.tapped-first.ensures in
    let is_second = c.tapped-second.ensures in
    four_of_lem _ _ _ _ _ _ _ _ is_first is_second c.tapped-third.ensures c.tapped-fourth.ensures
