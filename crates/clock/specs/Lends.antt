-- The ring and the windows as the code lends them, in two and four planes: how a clause speaks of them at entry and at exit. Definitions only.
use Rattle.std.specs.Prelude.{List, Float}
use Rattle.laws.specs.Lent.{LendsMut}
use Rattle.filter.specs.Filter.{Windows}
use Rattle.clock.specs.declared.Stepped.{Stepped}
use Rattle.clock.specs.Clock.{Ticked, ClockStep}

module _ (real imaginary : LendsMut Float) (r : Stepped) where
  -- Q of the ring as it is lent, part by part, and of what a sample leaves
  abbrev pub LeavesRing : (List Float → List Float → Ticked → Type 0) → Type 0
  LeavesRing Q = Q real.entry.now imaginary.entry.now (record { stepped = r; real = real.exit.now; imaginary = imaginary.exit.now })

module _ (ring_real ring_imaginary value_real value_imaginary derivative_real derivative_imaginary : LendsMut Float) (r : Stepped) where
  -- Q of the ring and the windows as they are lent, and of what a step leaves
  abbrev pub Leaves : (List Float → List Float → Windows → ClockStep → Type 0) → Type 0
  Leaves Q =
      Q
      ring_real.entry.now ring_imaginary.entry.now
      (record { real = value_real.entry.now; imaginary = value_imaginary.entry.now; derivative_real = derivative_real.entry.now; derivative_imaginary = derivative_imaginary.entry.now })
      (record {
        stepped = r;
        real = ring_real.exit.now;
        imaginary = ring_imaginary.exit.now;
        windows = record { real = value_real.exit.now; imaginary = value_imaginary.exit.now; derivative_real = derivative_real.exit.now; derivative_imaginary = derivative_imaginary.exit.now };
      })
