-- The test of a carrier's place passes exactly where its ranges hold. Assumes nothing.
use Rattle.std.specs.Prelude.{◌≡◌, Bool, true, ◌&&◌, leb}
use Rattle.std.proofs.Common.{ap, leb-true, le-leb}
use Rattle.laws.specs.Branches.{and_true}
use Rattle.sequence.specs.Admitted as Admitted
use Rattle.sequence.specs.AdmittedLaws as Detector
use Rattle.carrier.specs.declared.CarrierPlace.{CarrierPlace}
use Rattle.carrier.specs.Carrier.{admitted_of}
use Rattle.carrier.specs.Ranges.{PlaceRanged}

pub admitted_is : (c : CarrierPlace) (b : Bool) → b ≡ Admitted.admitted_of c.detector → (leb c.turn.alternation 7 && b) ≡ admitted_of c
unfolding admitted_of
admitted_is c b e = ap (λ (t : Bool). leb c.turn.alternation 7 && t) e

pub admitted_ranged : (c : CarrierPlace) → admitted_of c ≡ true → PlaceRanged c
unfolding admitted_of
admitted_ranged c h =
    let t = and_true (leb c.turn.alternation 7) (Admitted.admitted_of c.detector) h in
    record { alternation = leb-true c.turn.alternation 7 t.0; detector = Detector.admitted_ranged c.detector t.1 }

pub ranged_admitted : (c : CarrierPlace) → PlaceRanged c → admitted_of c ≡ true
unfolding admitted_of
ranged_admitted c h = rw (le-leb c.turn.alternation 7 h.alternation, Detector.ranged_admitted c.detector h.detector)
