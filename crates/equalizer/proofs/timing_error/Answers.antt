-- `equalizer::timing_error` meets its contract: the two ways, by whether the symbol is reliable, are the definition's.
use Rattle.equalizer.specs.Equalizer.{timing_error_of}
use Rattle.equalizer.proofs.timing_error.Goals as goal

pub returns-then-reliable : goal.returns-then-reliable
unfolding timing_error_of
returns-then-reliable c =
    let sure = c.if-reliable.true in
    rw sure c.clamp.ensures

pub returns-else-reliable : goal.returns-else-reliable
unfolding timing_error_of
returns-else-reliable c = rw c.if-reliable.false
