-- `run` meets its contract: after i turns the first i symbols of the row are decided, and the inverses are in the array of that turn.
use mathlib.Core.Path.{refl}
use Rattle.second.specs.Laws.{first_asks, row_start, row_step, next_held, held_end}
use borrow.Author.Rules.{rules}
use Rattle.second.proofs.row.run.Goals as goal

pub loop-i-init : goal.loop-i-init
loop-i-init c = (c.requires.given_link.state.detector.memory.inverse_size, c.requires.odd_len, row_start _ _ _ _)

pub turned-t-requires : goal.turned-t-requires
turned-t-requires c =
    let held = c.loop-i.invariant in
    record { given_link = next_held _ _ _ _ _ _ _ (first_asks _ _ c.requires.given_link) held.2 held.0; odd_len = held.1; at_bound = search rules }

pub loop-i-preserved : goal.loop-i-preserved
loop-i-preserved c =
    let after = c.turned-t.ensures in
    (after.whole.0, after.whole.1, row_step _ _ _ _ _ _ _ after.leaves_turns c.loop-i.invariant.2)

pub returns : goal.returns
returns c =
    let held = c.loop-i.invariant in
    record { leaves_turns = held_end _ _ _ _ _ _ _ _ _ (first_asks _ _ c.requires.given_link) held.2 refl (search rules) (search rules); whole = (held.0, held.1) }
