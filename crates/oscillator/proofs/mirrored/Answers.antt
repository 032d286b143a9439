-- `mirrored` meets its contract: the imaginary part is negated where the sample is conjugated, and kept where it is not.
use Rattle.oscillator.specs.Oscillator.{mirrored_of}
use Rattle.oscillator.proofs.mirrored.Goals as goal

pub returns-then-conjugated : goal.returns-then-conjugated
unfolding mirrored_of
returns-then-conjugated c = simp c.if-conjugated.true

pub returns-else-conjugated : goal.returns-else-conjugated
unfolding mirrored_of
returns-else-conjugated c = simp c.if-conjugated.false
