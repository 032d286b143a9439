-- `story::decimated::last_of_zeros` is safe: each step leaves a counter below d.
use Rattle.std.proofs.Common.{◌<◌}
use Rattle.story.proofs.decimated.last_of_zeros.Given as goal

abbrev pub invariant-loop-n : goal.invariant-loop-n
invariant-loop-n l = l.d.counter < l.d.decimation
