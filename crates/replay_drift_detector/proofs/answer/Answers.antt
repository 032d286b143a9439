-- `replay_drift_detector::answer` makes a detector that may be run.
use Rattle.std.proofs.Common.{rules}
use Rattle.replay_drift_detector.proofs.answer.Goals as goal

pub run-requires : goal.run-requires
run-requires c =
    let place_is = c.made_place-place.ensures in
    record {
      skeleton = record {
        place = record { write = place_is.0; filled = place_is.1; earlier = place_is.2 };
        table = c.fill_parents-seed.ensures.0;
        costs_size = search rules;
        parents_size = search rules;
      };
      memory = record { real_size = search rules; imaginary_size = search rules; drift_size = search rules; inverse_size = search rules };
    }
