-- `cancelled` meets its contract: three products off the input, the latest symbol's first.
use Rattle.answers.proofs.combine.cancelled.Goals as goal

pub returns : goal.returns
returns c =
    let multiplied2_is = c.multiplied-2.ensures in
    let symbol2_is = c.symbol-2.ensures in
    let subtracted_is = c.subtracted-a.ensures in
    let multiplied_is = c.multiplied.ensures in
    let symbol_is = c.symbol.ensures in
    rw (c.subtracted.ensures, c.multiplied-3.ensures, c.symbol-3.ensures, c.subtracted-b.ensures, multiplied2_is, symbol2_is, subtracted_is, multiplied_is, symbol_is)
