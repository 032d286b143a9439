-- `advanced` meets its contract: before the d-th sample the counter goes on, and at it what `sounded` makes.
use Rattle.std.proofs.Common.{ap, ◌∙◌, le-ltb, lt-ltb}
use Rattle.decimator.specs.Decimator.{sounded_of}
use Rattle.decimator.specs.Decimator.{advanced_of}
use Rattle.decimator.proofs.advanced.Goals as goal

pub returns-then-d : goal.returns-then-d
unfolding advanced_of
returns-then-d c =
    let absorbed = c.absorbed-s in
    rw (lt-ltb _ _ c.if-d.true, absorbed.ensures)

pub returns-else-d : goal.returns-else-d
unfolding advanced_of
returns-else-d c =
    let absorbed = c.absorbed-s in
    c.sounded.ensures
    ∙ ap (sounded_of c.args.d) absorbed.ensures
    ∙ rw (le-ltb _ _ c.if-d.false)
