-- The ranges of the stage's places and the lengths of its planes: what a value needs, and leaves. Definitions only.
use Rattle.std.specs.Prelude.{ℕ, ◌+◌, ◌≤◌, ◌<◌, ◌≡◌, length}
use Rattle.peak.specs.declared.KeeperPlace.{KeeperPlace}
use Rattle.peak.specs.Peak as Peak
use Rattle.clock.specs.Ranges as Clock
use Rattle.recovery.specs.declared.RecoveryPlace.{RecoveryPlace}
use Rattle.recovery.specs.Recovery.{RecoveryState}
use Rattle.recovery.specs.Rows.{Symbols, Lent}

-- `admitted_of` as facts
pub record Admitted (p : RecoveryPlace) : Type 0 where
  pub keeper : Peak.Admitted p.keeper
  pub clock : Clock.Admitted p.clock

-- the keeper with its ring
pub record KeeperRanged (p : KeeperPlace) (ring : Peak.Ring) : Type 0 where
  pub head : p.head < 64
  pub fill : p.fill ≤ 64
  pub real_size : length ring.real ≡ 64
  pub imaginary_size : length ring.imaginary ≡ 64

-- the stage
pub record Ranged (s : RecoveryState) : Type 0 where
  pub keeper : KeeperRanged s.place.keeper s.keeper
  pub clock : Clock.Admitted s.place.clock

-- room for n symbols more in the row
pub record Roomy (n : ℕ) (row : Symbols) : Type 0 where
  pub room : row.count + n ≤ 256
  pub real : length row.real ≡ 256
  pub imaginary : length row.imaginary ≡ 256
  pub reliable : length row.reliable ≡ 256

-- n values more can be taken
pub record Asks (n : ℕ) (l : Lent) : Type 0 where
  pub state : Ranged l.state
  pub symbols : Roomy n l.symbols
