-- `relabelled` meets its contract: the four dibits one by one.
use Rattle.labels.specs.LabelLaws.{relabel_other}
use Rattle.labels.proofs.relabelled.Goals as goal

pub returns-else-dibit-eq2 : goal.returns-else-dibit-eq2
returns-else-dibit-eq2 c = relabel_other _ c.if-dibit-eq0.false c.if-dibit-eq1.false c.if-dibit-eq2.false
