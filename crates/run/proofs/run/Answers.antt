-- `run` meets its contract: each turn of its loop carries the run on by a row, and the row that ends the samples ends it.
use mathlib.Core.Path.{refl, ◌∙◌}
use native.Mathlib.Omega.{arith}
use Rattle.run.specs.RunLaws.{going_start, front_asks, chain_asks, row_filled, going_on, going_less, going_within, going_end}
use borrow.Author.Rules.{rules}
use Rattle.run.proofs.run.Goals as goal

pub loop-t-init : goal.loop-t-init
loop-t-init c = (search rules, search rules, refl, going_start _ _ _ _ _ c.requires)

pub front-f-requires : goal.front-f-requires
front-f-requires c =
    let b = front_asks _ _ _ _ _ _ c.requires c.loop-t.invariant.3 c.loop-t-test.true in
    record { admitted = b.0; numbers = b.1.0; arm_in_bounds = b.1.1.0; from_bound = b.1.1.1.0; from_in_bounds = b.1.1.1.1 }

pub overflow_add-at : goal.overflow_add-at
overflow_add-at c =
    let within = going_within _ c.front-f.result _ _ c.loop-t-test.true c.front-f.ensures.kept in
    omega (arith, within, c.well_formed)

pub chain-c-requires : goal.chain-c-requires
chain-c-requires c =
    let b = chain_asks _ _ _ _ _ _ c.requires c.loop-t.invariant.3 c.front-f.result refl refl c.front-f.ensures.kept in
    record { given = b.0; made_bound = b.1 }

-- the last row
pub shape_of-memory-then-n-at : goal.shape_of-memory-then-n-at
shape_of-memory-then-n-at c =
    c.memory-1.given ∙ c.loop-t.invariant.2

pub shape_of-dibits-then-n-at : goal.shape_of-dibits-then-n-at
shape_of-dibits-then-n-at c =
    (going_on _ _ _ _ _ _ c.requires c.loop-t.invariant.3 c.front-f.result _ _ _ _ _ _ c.loop-t.invariant.0 c.loop-t.invariant.1 c.front-f.ensures.same c.front-f.ensures.kept _ c.chain-c.ensures.0 c.chain-c.ensures.1).left.dibits

pub shape_of-reliabilities-then-n-at : goal.shape_of-reliabilities-then-n-at
shape_of-reliabilities-then-n-at c =
    (going_on _ _ _ _ _ _ c.requires c.loop-t.invariant.3 c.front-f.result _ _ _ _ _ _ c.loop-t.invariant.0 c.loop-t.invariant.1 c.front-f.ensures.same c.front-f.ensures.kept _ c.chain-c.ensures.0 c.chain-c.ensures.1).left.reliabilities

pub shape_of-others-then-n-at : goal.shape_of-others-then-n-at
shape_of-others-then-n-at c =
    (going_on _ _ _ _ _ _ c.requires c.loop-t.invariant.3 c.front-f.result _ _ _ _ _ _ c.loop-t.invariant.0 c.loop-t.invariant.1 c.front-f.ensures.same c.front-f.ensures.kept _ c.chain-c.ensures.0 c.chain-c.ensures.1).left.others

pub shape_of-other_reliabilities-then-n-at : goal.shape_of-other_reliabilities-then-n-at
shape_of-other_reliabilities-then-n-at c =
    (going_on _ _ _ _ _ _ c.requires c.loop-t.invariant.3 c.front-f.result _ _ _ _ _ _ c.loop-t.invariant.0 c.loop-t.invariant.1 c.front-f.ensures.same c.front-f.ensures.kept _ c.chain-c.ensures.0 c.chain-c.ensures.1).left.other_reliabilities

pub returns-then-n-at : goal.returns-then-n-at
returns-then-n-at c =
    let on = going_on _ _ _ _ _ _ c.requires c.loop-t.invariant.3 c.front-f.result _ _ _ _ _ _ c.loop-t.invariant.0 c.loop-t.invariant.1 c.front-f.ensures.same c.front-f.ensures.kept _ c.chain-c.ensures.0 c.chain-c.ensures.1 in
    (going_end _ _ _ _ _ on c.if-n-at.true, on)

-- a row that leaves samples over
pub chain-c-requires-in-loop-t : goal.chain-c-requires-in-loop-t
chain-c-requires-in-loop-t c =
    let b = chain_asks _ _ _ _ _ _ c.requires c.loop-t.invariant.3 c.front-f.result refl refl c.front-f.ensures.kept in
    record { given = b.0; made_bound = b.1 }

pub loop-t-smaller : goal.loop-t-smaller
loop-t-smaller c =
    going_less _ c.front-f.result _ _ c.loop-t-test.true c.front-f.ensures.kept

pub loop-t-preserved : goal.loop-t-preserved
loop-t-preserved c =
    let filled = (row_filled _ _ _ _ _ _ c.requires c.loop-t.invariant.3 c.front-f.result _ _ _ _ _ _ c.loop-t.invariant.0 c.loop-t.invariant.1 c.front-f.ensures.same c.front-f.ensures.kept).roomy in
    let on = going_on _ _ _ _ _ _ c.requires c.loop-t.invariant.3 c.front-f.result _ _ _ _ _ _ c.loop-t.invariant.0 c.loop-t.invariant.1 c.front-f.ensures.same c.front-f.ensures.kept _ c.chain-c-in-loop-t.ensures.0 c.chain-c-in-loop-t.ensures.1 in
    (filled.real, filled.imaginary, c.memory-in-loop-t-1.given ∙ c.loop-t.invariant.2, on)

-- no samples
pub shape_of-memory : goal.shape_of-memory
shape_of-memory c = c.loop-t.invariant.2

pub shape_of-dibits : goal.shape_of-dibits
shape_of-dibits c = c.loop-t.invariant.3.left.dibits

pub shape_of-reliabilities : goal.shape_of-reliabilities
shape_of-reliabilities c = c.loop-t.invariant.3.left.reliabilities

pub shape_of-others : goal.shape_of-others
shape_of-others c = c.loop-t.invariant.3.left.others

pub shape_of-other_reliabilities : goal.shape_of-other_reliabilities
shape_of-other_reliabilities c = c.loop-t.invariant.3.left.other_reliabilities

pub returns : goal.returns
returns c = (going_end _ _ _ _ _ c.loop-t.invariant.3 (omega (arith, c.loop-t-test.false)), c.loop-t.invariant.3)
