-- WHILE THE SECOND STREAM IS NOT ENABLED it is not looked at: with another such one in its place a run gives the same, and leaves that one as given. Assumes nothing.
use Rattle.std.specs.Prelude.{◌≡◌, Bool, false, ◌/◌, List, Float}
use Rattle.std.proofs.Math.Path.{ap}
use Rattle.std.proofs.Math.ListN.{length}
use Rattle.second.specs.Second.{SecondState}
use Rattle.chain.specs.Rows.{Lent}
use Rattle.chain.specs.RowLaws.{with_second, chain_off}
use Rattle.run.specs.Run.{Whole, front_at, whole_run_of}

module _ (second : SecondState) (off : second.enabled ≡ false) where
  -- with this one in the place of its own
  abbrev lent_given : Lent → Lent
  lent_given l = record { state = with_second second l.state; records = l.records; room = l.room; other = l.other }

  abbrev pub whole_given : Whole → Whole
  whole_given w = record { rung = w.rung; lent = lent_given w.lent; from = w.from }

  -- a run over all samples
  pub run_off : (conjugated : Bool) (table xs : List Float) (w : Whole) → w.lent.state.second.enabled ≡ false
      → whole_run_of conjugated table xs (whole_given w) ≡ whole_given (whole_run_of conjugated table xs w)
  unfolding whole_run_of
  run_off conjugated table xs w so =
      let n = length xs / 2 in
      let f = front_at conjugated table xs w n in
      ap (λ (l : Lent). record { rung = f.rung; lent = l; from = n }) (chain_off second off f.values w.lent.state w.lent.records w.lent.room w.lent.other so)
