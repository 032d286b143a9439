-- `replay_second::made_second` makes a second stream that may be run.
use native.Mathlib.Omega.{arith}
use Rattle.second.specs.Parts.{memory_sized, costs_sized}
use Rattle.replay_second.proofs.made_second.Goals as goal

pub returns : goal.returns
returns c =
    let place_is = c.made_place-detector.ensures in
    let parents_are = c.fill_parents-s2.ensures in
    let whole = c.fill_memory-s1.ensures in record {
      ranged = record {
        alternation = c.turned.ensures;
        detector = record {
          skeleton = record {
            place = record { write = place_is.0; filled = place_is.1; earlier = place_is.2 };
            table = parents_are.0;
            costs_size = costs_sized _ (omega (arith, whole));
            parents_size = parents_are.1;
          };
          memory = memory_sized _ (omega (arith, whole));
        };
      };
      whole = parents_are.1;
    }
