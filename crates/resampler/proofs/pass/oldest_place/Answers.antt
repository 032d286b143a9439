-- `oldest_place` meets its contract: the oldest of the last c values stands 16 places on, or c places back.
use Rattle.std.proofs.Common.{[]}
use Rattle.resampler.proofs.Window.{oldest_low, oldest_high}
use Rattle.resampler.proofs.pass.oldest_place.Goals as goal

pub returns-then-write-arm : goal.returns-then-write-arm
returns-then-write-arm c = oldest_low _ _ c.requires.write_bound [] [] [] 0 c.if-write-arm.true

pub returns-else-write-arm : goal.returns-else-write-arm
returns-else-write-arm c = oldest_high _ _ c.requires.write_bound [] [] [] 0 c.if-write-arm.false
