-- A run over a block's samples: the front over all of them gives values, the chain over all values gives dibits. Definitions only.
use Rattle.std.specs.Prelude.{ℕ, ◌+◌, ◌*◌, ◌/◌, ◌^◌, ◌≤◌, ◌≡◌, Bool, List, [], length, Float}
use Rattle.std.specs.Borrow.{MutBor}
use denote.Triple.Both.{Both}
use Rattle.front.specs.Front as front
use Rattle.front.specs.Admitted as fit
use Rattle.laws.specs.Lent.{NowMut, LendsMut}
use Rattle.complex.specs.declared.Planes.{Planes}
use Rattle.chain.specs.declared.ChainPlanes.{ChainPlanes}
use Rattle.chain.specs.Lends.{lent_now}
use Rattle.chain.specs.Rows.{Lent, chain_of}
use Rattle.chain.specs.Ranges.{Asks}
use Rattle.chain.specs.RowLaws.{Left}
use Rattle.run.specs.declared.Running.{Running}

-- a front, a chain of two streams with what it is lent, and which sample is next
pub record Whole : Type 0 where
  pub rung : front.Rung
  pub lent : Lent
  pub from : ℕ

abbrev pub whole_now : Running → Planes 592 → ChainPlanes → List Float → List ℕ → List ℕ → List ℕ → List ℕ → List ℕ → Whole
whole_now t ring planes memory ancestors ds rs es qs = record {
  rung = record { place = t.front; real = ring.real; imaginary = ring.imaginary };
  lent = lent_now t.chained planes memory ancestors ds rs es qs;
  from = t.from;
}

-- the same by the names of the run's parameters, as it is given and as it is left: each is a type that computes to the clause written out
module _ (t : Running) (ring : MutBor (Planes 592)) (planes : MutBor ChainPlanes) (memory : NowMut Float) (ancestors dibits reliabilities others other_reliabilities : NowMut ℕ) where
  abbrev pub Given : (Whole → Type 0) → Type 0
  Given P = P (whole_now t ring.now planes.now memory.now ancestors.now dibits.now reliabilities.now others.now other_reliabilities.now)

module _ (t r : Running) (ring : Both (MutBor (Planes 592)) (MutBor (Planes 592))) (planes : Both (MutBor ChainPlanes) (MutBor ChainPlanes)) (memory : LendsMut Float)
    (ancestors dibits reliabilities others other_reliabilities : LendsMut ℕ) where
  abbrev pub Leaves : (Whole → Whole → Type 0) → Type 0
  Leaves Q =
      Q
      (whole_now t ring.entry.now planes.entry.now memory.entry.now ancestors.entry.now dibits.entry.now reliabilities.entry.now others.entry.now other_reliabilities.entry.now)
      (whole_now r ring.exit.now planes.exit.now memory.exit.now ancestors.exit.now dibits.exit.now reliabilities.exit.now others.exit.now other_reliabilities.exit.now)

module _ (conjugated : Bool) (table xs : List Float) (w : Whole) where
  -- the front after n samples, and its values
  abbrev pub front_at : ℕ → front.Run
  front_at n = front.front_of conjugated table xs n (record { rung = w.rung; values = [] })

  -- the chain after their values
  abbrev pub lent_at : ℕ → Lent
  lent_at n = chain_of (front_at n).values w.lent.state w.lent.records w.lent.room w.lent.other

  unfoldable pub whole_run_of : Whole
  whole_run_of = record { rung = (front_at (length xs / 2)).rung; lent = lent_at (length xs / 2); from = length xs / 2 }

  -- how far a run has come
  pub record Going (v : Whole) : Type 0 where
    pub high : v.from ≤ length xs / 2
    pub next : fit.Next v.from w.rung.place v.rung.place
    pub rung : v.rung ≡ (front_at v.from).rung
    pub lent : v.lent ≡ lent_at v.from
    pub left : Left (2 * v.from) w.lent.state w.lent.room w.lent.other v.lent

-- what a run asks
pub record ReadyRun (both : Bool) (table xs : List Float) (w : Whole) : Type 0 where
  pub start : w.from ≡ 0
  pub ready : fit.Admitted w.rung.place
  pub numbers : fit.Numbers xs
  pub table_in : 32 * w.rung.place.resampler.arm ≤ length table
  pub index_in : w.rung.place.resampler.index + length xs / 2 ≤ 2 ^ 52
  pub asks : Asks both (2 * (length xs / 2)) w.lent
