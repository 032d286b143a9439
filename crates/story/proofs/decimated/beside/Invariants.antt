-- `story::decimated::beside` is safe: each step leaves both counters below d.
use Rattle.std.proofs.Common.{◌<◌}
use Rattle.story.proofs.decimated.beside.Given as goal

abbrev pub invariant-loop-i : goal.invariant-loop-i
invariant-loop-i l = (l.a.counter < l.a.decimation) × (l.b.counter < l.b.decimation)
