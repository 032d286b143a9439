-- `delivered` meets its contract: at each turn what is left to do is what is left of the whole pass, and a third output is never due.
use Rattle.std.proofs.Common.{◌-◌}
use Rattle.resampler.specs.AdmittedLaws.{Stands}
use Rattle.resampler.proofs.pass.delivered.Given as goal

abbrev pub invariant-loop-r : goal.invariant-loop-r
invariant-loop-r l = Stands l.r l.table l.reals l.imaginaries l.d

abbrev pub decreases-loop-r : goal.decreases-loop-r
decreases-loop-r l = 2 - l.d.count
