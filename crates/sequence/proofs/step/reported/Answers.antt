-- `reported` meets its contract: the residual and its noise, the record made with that noise, and the place after the step.
use Rattle.sequence.specs.Sequence.{reported_of}
use Rattle.sequence.proofs.step.reported.Goals as goal

pub returns : goal.returns
unfolding reported_of
returns c =
    let record_is = c.record.ensures in
    let noise_after_is = c.noise_after-noise.ensures in
    let power_is = c.power-residual.ensures in
    let subtracted_is = c.subtracted.ensures in
    rw (c.power_told.ensures, c.phase_between.ensures, c.one_more.ensures, record_is, noise_after_is, power_is, subtracted_is)
