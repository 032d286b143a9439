-- `measured` meets its contract: where all parts are inside nothing else need be asked; otherwise the overloads are counted where all are finite.
use Rattle.samples.specs.Inside.{level_inside, level_counted, level_unsound}
use Rattle.samples.proofs.measured.Goals as goal

pub returns-then-all_inside : goal.returns-then-all_inside
returns-then-all_inside c = level_inside _ _ c.all_inside.ensures c.if-all_inside.true

pub returns-then-all_finite : goal.returns-then-all_finite
returns-then-all_finite c = level_counted _ _ _ c.overloads.ensures c.all_finite.ensures c.if-all_finite.true

pub returns : goal.returns
returns c = level_unsound _ _ c.all_finite.ensures c.if-all_finite.false
