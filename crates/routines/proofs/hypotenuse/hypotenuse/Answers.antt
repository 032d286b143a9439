-- `hypotenuse::hypotenuse` meets its contract: an infinity of either wins, and else the root of the squares.
use Rattle.routines.specs.HypotenuseCode.{wins_first, wins_second, wins_none}
use lib.Ieee.{of_bits, div}
use Rattle.std.proofs.Common.{sym, ◌∙◌}
use Rattle.routines.proofs.hypotenuse.hypotenuse.Goals as goal

pub returns-then-is_infinite : goal.returns-then-is_infinite
unfolding of_bits div
returns-then-is_infinite c = wins_first c.args.x c.args.y (sym c.is_infinite.ensures ∙ c.if-is_infinite.true)

pub returns-then-is_infinite-2 : goal.returns-then-is_infinite-2
unfolding of_bits div
returns-then-is_infinite-2 c =
    let x = c.args.x in
    let y = c.args.y in
    wins_second x y (sym c.is_infinite-2.ensures ∙ c.if-is_infinite-2.true)

pub returns : goal.returns
returns c =
    let is_infinite_says = c.is_infinite.ensures in
    c.root_of_squares.ensures ∙ wins_none _ _ (sym is_infinite_says ∙ c.if-is_infinite.false) (sym c.is_infinite-2.ensures ∙ c.if-is_infinite-2.false)
