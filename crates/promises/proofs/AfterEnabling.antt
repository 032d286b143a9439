-- After the 31 symbols that follow an enabling the first stream is as without one. Assumes nothing.
use Rattle.std.specs.Prelude.{◌≡◌, ◌+◌, Float}
use Rattle.std.proofs.Math.Path.{ap}
use Rattle.std.proofs.Common.{◌∙◌}
use mathlib.Core.List.{List, ◌++◌}
use native.Mathlib.Omega.{arith}
use Rattle.complex.specs.declared.Complex32.{Complex32}
use Rattle.chain.specs.Rows.{Told, ran_of}
use Rattle.promises.specs.Deliveries.{Delivery, delivery_of, deliveries}
use Rattle.promises.specs.Append.{deliveries_append}
use Rattle.promises.specs.Streams.{BothRan, Filling, Full, first_unchanged, heard_in, ran_same, silent_symbols}

module _ (taps derivatives : List Float) where
  -- THE THEOREM: after the 31 symbols that follow an enabling, the first stream delivers what it delivers from there without one
  pub first_after_enabling : (xs ys : List Complex32) (t u : Told) → BothRan taps derivatives t u → Filling 0 t.state.second → heard_in taps derivatives xs t.state t.records ≡ 31
      → deliveries taps derivatives (xs ++ ys) t.state t.records ≡ deliveries taps derivatives ys (ran_of taps derivatives xs u).state (ran_of taps derivatives xs u).records
  first_after_enabling xs ys t u h fresh heard =
      let q = silent_symbols taps derivatives xs t 0 fresh (omega arith) in
      let b = ran_same taps derivatives xs t u h in
      let s = ran_of taps derivatives xs t in
      let filled = q.filling.filled in
      let full : Full s.state.second = record { enabled = q.filling.enabled; filled = omega arith } in
      deliveries_append taps derivatives delivery_of xs ys t
      ∙ ap (λ (l : List Delivery). l ++ deliveries taps derivatives ys s.state s.records) q.first
      ∙ ap (deliveries taps derivatives ys s.state) b.records
      ∙ first_unchanged taps derivatives ys s.state (ran_of taps derivatives xs u).state (ran_of taps derivatives xs u).records b.state full b.off
