-- Admitted in, admitted out: every value keeps the chain's ranges, since each stage keeps its own. Assumes nothing.
use Rattle.std.specs.Prelude.{◌≡◌, true, ℕ, List, ℤ, length, Option, Some, None, Float}
use Rattle.std.proofs.Common.{arith}
use Rattle.complex.specs.declared.Complex32.{Complex32}
use Rattle.peak.specs.Peak as Peak
use Rattle.clock.proofs.Laws.{fresh_admitted}
use Rattle.equalizer.specs.Equalizer as Equalizer
use Rattle.complex.specs.Planes.{Planes}
use Rattle.sequence.specs.Sequence as Sequence
use Rattle.lms_detector.specs.Ranges as Detector
use Rattle.recovery.specs.declared.step.Found.{Found}
use Rattle.recovery.specs.Recovery as Recovery
use Rattle.recovery.specs.Ranges as RecoveryRanges
use Rattle.recovery.specs.Laws as RecoveryLaws
use Rattle.decisions.specs.Decisions as Decisions
use Rattle.decisions.specs.Ranges as DecisionsRanges
use Rattle.decisions.specs.Laws.{decided_ranged}
use Rattle.second.specs.Second.{SecondState}
use Rattle.second.specs.Ranges as SecondRanges
use Rattle.second.specs.Laws.{other_ranged}
use Rattle.delivery.specs.declared.DeliveryPlace.{DeliveryPlace}
use Rattle.delivery.specs.Ranges as DeliveryRanges
use Rattle.delivery.specs.Laws.{told_ranged}
use Rattle.chain.specs.Chain.{fresh_place, ChainState, recovery_of, decisions_of, delivery_of, heard_of, stepped_of}
use Rattle.chain.specs.Ranges.{Ranged}
use Rattle.answers.specs.declared.soft.Soft.{Soft}

heard_ranged : (f : Option Found) (r : Recovery.RecoveryState) (d : Decisions.DecisionsState) (s : SecondState) (p : DeliveryPlace) (oldest : Option Soft)
    → RecoveryRanges.Ranged r → DecisionsRanges.Ranged d → (s.enabled ≡ true → SecondRanges.Ranged s) → DeliveryRanges.Ranged p → Ranged (heard_of f r d s p oldest).state
unfolding heard_of
heard_ranged None r d s p oldest a b e c = record { recovery = a; decisions = b; second = e; delivery = c }
heard_ranged (Some found) r d s p oldest a b e c = record {
  recovery = a;
  decisions = decided_ranged d found.symbol found.reliable oldest b;
  second = other_ranged s _ found.symbol found.reliable e;
  delivery = told_ranged p _ _ c;
}

pub stepped_ranged : (taps derivatives : List Float) (s : ChainState) (z : Complex32) (oldest : Option Soft) → Ranged s → Ranged (stepped_of taps derivatives s z oldest).state
unfolding stepped_of
stepped_ranged taps derivatives s z oldest h =
    let k = Recovery.stepped_of taps derivatives (recovery_of s) z in
    heard_ranged k.found k.state (decisions_of s) s.second (delivery_of s.place) oldest (RecoveryLaws.stepped_ranged taps derivatives (recovery_of s) z h.recovery) h.decisions h.second h.delivery

-- A FRESH CHAIN is in range, whatever its planes hold, where the detector's are
pub fresh_ranged : (profile : ℤ) (keeper : Peak.Ring) (clock : Planes) (weights : Equalizer.Row) (channels : Planes) (costs : List Float) (parents : List ℕ) (view : Planes) (second : SecondState)
    → length keeper.real ≡ 64 → length keeper.imaginary ≡ 64 → Detector.Ranged Sequence.fresh_place channels.real channels.imaginary costs parents
    → (second.enabled ≡ true → SecondRanges.Ranged second)
    → Ranged (record { place = fresh_place profile; keeper = keeper; clock = clock; weights = weights; channels = channels; costs = costs; parents = parents; view = view; second = second })
fresh_ranged profile keeper clock weights channels costs parents view second r i d e = record {
  recovery = record { keeper = record { head = omega arith; fill = omega arith; real_size = r; imaginary_size = i }; clock = fresh_admitted };
  decisions = record { carrier = record { alternation = omega arith; detector = d }; view = record { head = omega arith; count = omega arith } };
  second = e;
  delivery = record { locked = omega arith };
}
