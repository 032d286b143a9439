-- `answer` is safe: a rate in range gives dimensions in range, and values go into an admitted resampler alone.
use Rattle.std.proofs.Common.{◌<◌, sym, ◌∙◌, subst, length-take-le, rules}
use Rattle.resampler.specs.AdmittedLaws.{admitted_facts}
use Rattle.decimator.specs.Decimator.{fresh_of}
use Rattle.decimator.specs.declared.Decimator.{Decimator}
use Rattle.replay_resampler.proofs.answer.Goals as goal

pub slice_bounds-mixed_plane-end : goal.slice_bounds-mixed_plane-end
slice_bounds-mixed_plane-end c = let a = c.sized-s.ensures.ranges.arm_high in sym (length-take-le _ _ (search (rules, a)))

pub run-h-requires : goal.run-h-requires
run-h-requires c =
    let is_admitted = c.is_admitted in
    let test = c.if-is_admitted in
    let sized = c.sized-s in record { admitted = admitted_facts _ (sym is_admitted.ensures ∙ test.true); counter_lt_decimation = subst (λ (d : Decimator). d.counter < d.decimation) (sym c.fresh-d.ensures) (unfold fresh_of in sized.ensures.ranges.decimation_low) }
