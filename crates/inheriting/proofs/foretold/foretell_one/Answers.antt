-- `foretell_one` meets its contract: the numbers of the four quarters, from what was read before anything was written.
use Rattle.inheriting.specs.Foretold.{quarters_is}
use Rattle.inheriting.proofs.foretold.foretell_one.Goals as goal

pub returns : goal.returns
returns c =
    let x = c.here-x.ensures in
    let y = c.right-y.ensures in
    let z = c.below-z.ensures in
    let w = c.across-w.ensures in
    quarters_is _ _ _ _ _ _ _ _ _ _ _ _ _ _ _ _ _ _ _ _ _ _ _ _ _ _ _ x x x x y y y y z z z z w w w w
    c.put_four.ensures c.put_four-2.ensures c.put_four-3.ensures c.put_four-4.ensures
