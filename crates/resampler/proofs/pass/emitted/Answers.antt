-- `emitted` meets its contract: the first output, or the second, and the position one step on.
use Rattle.std.proofs.Common.{eq-eqb, ne_eqb}
use Rattle.resampler.specs.Pass.{emitted_of}
use Rattle.resampler.proofs.pass.emitted.Goals as goal

pub returns-then-d-eq0 : goal.returns-then-d-eq0
unfolding emitted_of
returns-then-d-eq0 c = rw (eq-eqb _ _ c.if-d-eq0.true)

pub returns-else-d-eq0 : goal.returns-else-d-eq0
unfolding emitted_of
returns-else-d-eq0 c = rw (ne_eqb _ _ c.if-d-eq0.false)
