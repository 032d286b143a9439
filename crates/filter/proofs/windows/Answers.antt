-- `filter::windows` meets its contract: the invariant is that the planes hold the windows that are made before group g.
use Rattle.filter.proofs.Laws.{made_start, made_group, made_end}
use borrow.Author.Rules.{rules}
use Rattle.filter.proofs.windows.Goals as goal

pub loop-g-init : goal.loop-g-init
loop-g-init c = made_start _ _ _ _ _ _ _ _ (search rules) (search rules) (search rules) (search rules)

pub loop-g-preserved : goal.loop-g-preserved
loop-g-preserved c =
    let so_far = c.loop-g.invariant in
    let is_group = c.group-k.ensures in
    let is_sums = c.four_sums-s.ensures in
    let is_real = c.put.ensures in
    let is_imaginary = c.put-in-loop-g.ensures in
    made_group _ _ _ _ _ _ _ _ _ _ _ _ _ _ _ so_far (search rules) is_group.is (search rules)
    is_sums is_real is_imaginary c.put-in-loop-g-2.ensures c.put-in-loop-g-3.ensures

pub returns : goal.returns
returns c = made_end _ _ _ _ _ _ _ _ _ c.loop-g.invariant (search rules) (search rules)
