-- `circle::turned_cosine` meets its contract: one of four, by the quarter turns.
use lib.Ieee.{neg}
use Rattle.std.proofs.Common.{ap}
use Rattle.routines.proofs.CircleCode.{quarter_0, quarter_1, quarter_2, quarter_3}
use Rattle.routines.specs.Circle.{turned_cosine}
use Rattle.routines.proofs.circle.turned_cosine.Goals as goal

pub returns-then-q-eq0 : goal.returns-then-q-eq0
unfolding turned_cosine
returns-then-q-eq0 c = quarter_0 _ _ _ _ _ _ c.if-q-eq0.true c.near_cosine.ensures

pub returns-then-q-eq1 : goal.returns-then-q-eq1
unfolding turned_cosine
returns-then-q-eq1 c = quarter_1 _ _ _ _ _ _ c.if-q-eq0.false c.if-q-eq1.true (ap neg c.near_sine.ensures)

pub returns-then-q-eq2 : goal.returns-then-q-eq2
unfolding turned_cosine
returns-then-q-eq2 c = quarter_2 _ _ _ _ _ _ c.if-q-eq0.false c.if-q-eq1.false c.if-q-eq2.true (ap neg c.near_cosine-then-q-eq2.ensures)

pub returns-else-q-eq2 : goal.returns-else-q-eq2
unfolding turned_cosine
returns-else-q-eq2 c = quarter_3 _ _ _ _ _ _ c.if-q-eq0.false c.if-q-eq1.false c.if-q-eq2.false c.near_sine-else-q-eq2.ensures
