-- `answer` is safe: samples go into an admitted front alone.
use mathlib.Core.Path.{sym, ◌∙◌}
use Rattle.front.specs.AdmittedLaws.{admitted_facts}
use Rattle.replay_front.proofs.answer.Goals as goal

pub run-h-requires : goal.run-h-requires
run-h-requires c =
    let tested = c.is_admitted in
    admitted_facts _ (sym tested.ensures ∙ c.if-is_admitted.true)
