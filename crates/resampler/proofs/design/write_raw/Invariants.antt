-- `write_raw` meets its contract: each turn writes a tap at its place and adds it, and the last tap is added alone.
use Rattle.std.proofs.Common.{◌≡◌}
use Rattle.resampler.specs.Loops.{Raw, both_turn, start_raw}
use Rattle.laws.specs.Turns.{turns}
use Rattle.resampler.proofs.design.write_raw.Given as goal

abbrev pub invariant-loop-i : goal.invariant-loop-i
invariant-loop-i l = ◌≡◌ {A = Raw} (record { sum = l.sum; table = l.table }) (turns (both_turn l.omega l.arm) l.i (start_raw l.initial.table))
