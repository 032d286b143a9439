-- `foretell_four` meets its contract: the numbers of the four quarters, each from what was read before anything was written.
use native.Mathlib.Omega.{arith}
use Rattle.inheriting.specs.Foretold.{quarters_is}
use Rattle.inheriting.proofs.foretold.foretell_four.Goals as goal

pub here-a_here-requires : goal.here-a_here-requires
here-a_here-requires c = c.requires.0

pub here-b_here-requires : goal.here-b_here-requires
here-b_here-requires c = c.requires.1

pub here-c_here-requires : goal.here-c_here-requires
here-c_here-requires c = c.requires.2

pub here-d_here-requires : goal.here-d_here-requires
here-d_here-requires c = c.requires.3

pub right-a_right-requires : goal.right-a_right-requires
right-a_right-requires c = c.requires.0

pub right-b_right-requires : goal.right-b_right-requires
right-b_right-requires c = c.requires.1

pub right-c_right-requires : goal.right-c_right-requires
right-c_right-requires c = c.requires.2

pub right-d_right-requires : goal.right-d_right-requires
right-d_right-requires c = c.requires.3

pub below-a_below-requires : goal.below-a_below-requires
below-a_below-requires c = c.requires.0

pub below-b_below-requires : goal.below-b_below-requires
below-b_below-requires c = c.requires.1

pub below-c_below-requires : goal.below-c_below-requires
below-c_below-requires c = c.requires.2

pub below-d_below-requires : goal.below-d_below-requires
below-d_below-requires c = c.requires.3

pub across-a_across-requires : goal.across-a_across-requires
across-a_across-requires c = c.requires.0

pub across-b_across-requires : goal.across-b_across-requires
across-b_across-requires c = c.requires.1

pub across-c_across-requires : goal.across-c_across-requires
across-c_across-requires c = c.requires.2

pub across-d_across-requires : goal.across-d_across-requires
across-d_across-requires c = c.requires.3

pub put_four-requires : goal.put_four-requires
put_four-requires c = omega (arith, c.requires.4)

pub overflow_add-at : goal.overflow_add-at
overflow_add-at c = omega (arith, c.requires.4)

pub put_four-requires-2 : goal.put_four-requires-2
put_four-requires-2 c = omega (arith, c.requires.4)

pub overflow_add-at-2 : goal.overflow_add-at-2
overflow_add-at-2 c = omega (arith, c.requires.4)

pub put_four-requires-3 : goal.put_four-requires-3
put_four-requires-3 c = omega (arith, c.requires.4)

pub overflow_add-at-3 : goal.overflow_add-at-3
overflow_add-at-3 c = omega (arith, c.requires.4)

pub put_four-requires-4 : goal.put_four-requires-4
put_four-requires-4 c = omega (arith, c.requires.4)

pub returns : goal.returns
returns c =
    let third = c.before.before in
    let second = third.before.before in
    let first = second.before.before in
    quarters_is _ _ _ _ _ _ _ _ _ _ _ _ _ _ _ _ _ _ _ _ _ _ _ _ _ _ _
    c.here-a_here.ensures c.here-b_here.ensures c.here-c_here.ensures c.here-d_here.ensures
    c.right-a_right.ensures c.right-b_right.ensures c.right-c_right.ensures c.right-d_right.ensures
    c.below-a_below.ensures c.below-b_below.ensures c.below-c_below.ensures c.below-d_below.ensures
    c.across-a_across.ensures c.across-b_across.ensures c.across-c_across.ensures c.across-d_across.ensures
    c.put_four.ensures c.put_four-2.ensures c.put_four-3.ensures c.put_four-4.ensures
