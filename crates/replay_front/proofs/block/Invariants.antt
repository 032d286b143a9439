-- `block` is safe and ends: each call uses a sample at least.
use Prim.Native.Nat.{◌+◌, ◌-◌, ◌^◌, ◌≤◌}
use Rattle.front.specs.Admitted.{Admitted}
use Rattle.replay_front.proofs.block.Given as goal

abbrev pub invariant-loop-from : goal.invariant-loop-from
invariant-loop-from l = Admitted l.place × (l.place.resampler.index + (512 - l.from) ≤ 2 ^ 52)

abbrev pub decreases-loop-from : goal.decreases-loop-from
decreases-loop-from l = 512 - l.from
