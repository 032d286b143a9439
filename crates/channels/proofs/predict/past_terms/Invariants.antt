-- `predict::past_terms` meets its contract: each turn of the loop writes one prior's three terms, tap after tap.
use mathlib.Core.Path.{◌≡◌}
use Rattle.laws.specs.Turns.{turns}
use Rattle.channels.specs.Laws.{past_turn}
use Rattle.channels.proofs.predict.past_terms.Given as goal

abbrev pub invariant-loop-p : goal.invariant-loop-p
invariant-loop-p l = (l.past_real ≡ turns (past_turn (λ z. z.real) (record { real = l.real; imaginary = l.imaginary })) l.p l.initial.past_real)
    × (l.past_imaginary ≡ turns (past_turn (λ z. z.imaginary) (record { real = l.real; imaginary = l.imaginary })) l.p l.initial.past_imaginary)
