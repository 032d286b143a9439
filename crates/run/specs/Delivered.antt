-- An accepted block delivers at most two dibits a sample, and counts each as a symbol. Assumes nothing.
use Rattle.std.specs.Prelude.{◌≡◌, Bool, Float}
use mathlib.Core.List.{List, []}
use Prim.Native.Nat.{ℕ, zero, suc, ◌+◌, ◌*◌, ◌/◌, ◌≤◌}
use native.Mathlib.Omega.{arith}
use Rattle.std.proofs.Math.ListN.{length, length-append}
use Rattle.laws.specs.Turns.{turns}
use Rattle.front.specs.Front as front
use Rattle.front.specs.Steps.{values_two}
use Rattle.chain.specs.Ranges.{Ranged}
use Rattle.chain.specs.RowLaws.{chain_left}
use Rattle.run.specs.Run.{Whole, front_at, whole_run_of}

module _ (conjugated : Bool) (table xs : List Float) where
  -- n samples make at most 2 n values
  pub values_most : (n : ℕ) (h : front.Run) → length (front.front_of conjugated table xs n h).values ≤ length h.values + 2 * n
  unfolding front.front_of turns front.more
  values_most zero h = omega arith
  values_most (suc n) h =
      let a = values_most n h in
      let b = values_two conjugated table (front.front_of conjugated table xs n h).rung (front.sample_at xs n) in
      simp length-append (omega arith)

  -- k <= 2 n, and symbols grows by k
  pub delivered : (w : Whole) → Ranged w.lent.state
      → ((whole_run_of conjugated table xs w).lent.room.written ≤ w.lent.room.written + 2 * (length xs / 2))
      × ((whole_run_of conjugated table xs w).lent.state.place.symbols + w.lent.room.written ≡ w.lent.state.place.symbols + (whole_run_of conjugated table xs w).lent.room.written)
  unfolding whole_run_of
  delivered w h =
      let n = length xs / 2 in
      let l = chain_left (front_at conjugated table xs w n).values w.lent.state w.lent.records w.lent.room w.lent.other h in
      let v : length (front_at conjugated table xs w n).values ≤ 0 + 2 * n = values_most n (record { rung = w.rung; values = [] }) in
      let m = l.most in
      (omega arith, l.symbols)
