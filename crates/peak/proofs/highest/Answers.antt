-- `peak::highest` meets its contract: the peak of the quarters of the columns is the peak by columns.
use Rattle.peak.proofs.ColumnLaws.{highest_of_lem}
use Rattle.peak.proofs.highest.Goals as goal

pub returns : goal.returns
returns c =
    let is_columns = c.columns.ensures in
    let is_quarter = c.quarter.ensures in
    let is_quarter2 = c.quarter-2.ensures in
    let is_quarter3 = c.quarter-3.ensures in
    let is_low = c.top-low.ensures in
    highest_of_lem _ _ _ _ _ _ _ _ _ is_columns is_quarter is_quarter2 is_quarter3 c.quarter-4.ensures is_low c.top-high.ensures c.top.ensures
