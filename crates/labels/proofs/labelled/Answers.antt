-- `labelled` meets its contract: silent, rearranged and plain.
use Rattle.labels.specs.LabelLaws.{label_rearranged}
use Rattle.labels.proofs.labelled.Goals as goal

pub returns-then-rearranged : goal.returns-then-rearranged
returns-then-rearranged c = label_rearranged _ _ _ c.in_ok-d.was _ _ c.if-rearranged.true c.relabelled.ensures c.min.ensures

pub returns : goal.returns
returns c = rw (c.in_ok-d.was, c.if-rearranged.false)
