-- `loop_after` meets its contract: the frequency first, then the phase by it, and lock by the new error.
use Rattle.carrier.specs.Laws.{loop_is}
use Rattle.carrier.proofs.loop_after.Goals as goal

pub returns : goal.returns
returns c =
    let phase_error_is = c.phase_error-e.ensures in
    let frequency_after_is = c.frequency_after-frequency.ensures in
    loop_is _ _ _ _ _ _ _ _ _ phase_error_is frequency_after_is c.error_after-error.ensures c.phase_after.ensures c.is_locked.ensures
