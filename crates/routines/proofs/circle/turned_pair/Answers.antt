-- `circle::turned_pair` meets its contract: one of four pairs, by the quarter turns.
use Rattle.routines.proofs.CircleCode.{pair_0, pair_1, pair_2, pair_3}
use Rattle.routines.proofs.circle.turned_pair.Goals as goal

pub returns-then-q-eq0 : goal.returns-then-q-eq0
returns-then-q-eq0 c = pair_0 c.args.a _ _ c.near_sine-s.ensures c.near_cosine-c.ensures c.if-q-eq0.true

pub returns-then-q-eq1 : goal.returns-then-q-eq1
returns-then-q-eq1 c =
    let a = c.args.a in
    pair_1 a _ _ c.near_sine-s.ensures c.near_cosine-c.ensures c.if-q-eq0.false c.if-q-eq1.true

pub returns-then-q-eq2 : goal.returns-then-q-eq2
returns-then-q-eq2 c =
    let a = c.args.a in
    let near_sine_says = c.near_sine-s.ensures in
    pair_2 a _ _ near_sine_says c.near_cosine-c.ensures c.if-q-eq0.false c.if-q-eq1.false c.if-q-eq2.true

pub returns-else-q-eq2 : goal.returns-else-q-eq2
returns-else-q-eq2 c =
    let a = c.args.a in
    let near_sine_says = c.near_sine-s.ensures in
    pair_3 a _ _ near_sine_says c.near_cosine-c.ensures c.if-q-eq0.false c.if-q-eq1.false c.if-q-eq2.false
