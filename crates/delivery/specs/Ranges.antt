-- The ranges of the stage's counts, and the room that it needs. Definitions only.
use Rattle.std.specs.Prelude.{ℕ, ◌+◌, ◌*◌, ◌≤◌, length}
pub use Rattle.labels.specs.Labels.{most_symbols}
use Rattle.delivery.specs.declared.DeliveryPlace.{DeliveryPlace}
use Rattle.delivery.specs.Delivery.{Room, Lent}

pub record Ranged (p : DeliveryPlace) : Type 0 where
  pub locked : p.locked ≤ p.symbols

-- room for n dibits more, and their reliabilities
pub record Roomy (n : ℕ) (room : Room) : Type 0 where
  pub dibits : room.written + n ≤ length room.dibits
  pub reliabilities : 2 * room.written + 2 * n ≤ length room.reliabilities

-- n answers more can be taken
pub record Asks (n : ℕ) (l : Lent) : Type 0 where
  pub place : Ranged l.place
  pub symbols : l.place.symbols + n ≤ most_symbols
  pub room : Roomy n l.room
