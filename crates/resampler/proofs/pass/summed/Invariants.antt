-- `summed` meets its contract: each turn adds a product to each part, in the order of the definition.
use Rattle.std.proofs.Common.{◌≡◌}
use Rattle.resampler.specs.Loops.{run_turn}
use Rattle.complex.specs.declared.Complex32.{Complex32}
use Rattle.laws.specs.Turns.{turns}
use Rattle.resampler.proofs.pass.summed.Given as goal

abbrev pub invariant-loop-i : goal.invariant-loop-i
invariant-loop-i l = ◌≡◌ {A = Complex32} (record { real = l.real; imaginary = l.imaginary }) (turns (run_turn l.reals l.imaginaries l.from l.table l.base) l.i (record { real = l.initial.real; imaginary = l.initial.imaginary }))
