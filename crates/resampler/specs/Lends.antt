-- What the pass is lent, by the names of its parameters: a type that computes to the clause written out. Definitions only.
use Rattle.std.specs.Prelude.{List, Float}
use Rattle.laws.specs.Lent.{LendsMut}
use Rattle.resampler.specs.declared.pass.Passed.{Passed}
use Rattle.resampler.specs.Pass.{Sampled}

-- both planes of the ring as they were, and what the call answered with both planes as it left them
abbrev pub Leaves : Passed → LendsMut Float → LendsMut Float → (List Float → List Float → Sampled → Type 0) → Type 0
Leaves p reals imaginaries Q = Q reals.entry.now imaginaries.entry.now (record { passed = p; real = reals.exit.now; imaginary = imaginaries.exit.now })
