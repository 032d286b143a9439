-- `dibit_of` meets its contract: quarters 0, 1, 2 and 3 one by one.
use Rattle.answers.specs.Laws.{dibit_three}
use Rattle.answers.proofs.walk.dibit_of.Goals as goal

pub returns-else-quarters-eq2 : goal.returns-else-quarters-eq2
returns-else-quarters-eq2 c = dibit_three _ c.requires c.if-quarters-eq0.false c.if-quarters-eq1.false c.if-quarters-eq2.false
