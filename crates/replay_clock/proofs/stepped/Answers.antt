-- `replay_clock::stepped` is safe: the place is admitted.
use mathlib.Core.Path.{sym, ◌∙◌}
use Rattle.clock.specs.AdmittedLaws.{admitted_facts}
use Rattle.replay_clock.proofs.stepped.Goals as goal

pub step-s-requires : goal.step-s-requires
step-s-requires c =
    let is_tested = c.is_admitted.ensures in
    let passed = c.if-not-is_admitted.false in
    admitted_facts _ (sym is_tested ∙ passed)
