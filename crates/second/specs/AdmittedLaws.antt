-- The test of a second stream passes exactly where, if it is enabled, its ranges hold. Assumes nothing.
use Rattle.std.specs.Prelude.{◌≡◌, refl, ℕ, ◌≤◌, Bool, true, false, ◌&&◌, List, length, Float}
use Rattle.std.proofs.Common.{sym, ◌∙◌}
use Rattle.laws.specs.Branches.{and_true}
use Rattle.sequence.specs.Admitted.{are_states}
use Rattle.sequence.specs.AdmittedLaws.{states_table, table_states}
use Rattle.carrier.specs.Carrier as Carrier
use Rattle.carrier.specs.AdmittedLaws as CarrierLaws
use Rattle.second.specs.declared.Second.{Second}
use Rattle.second.specs.Second.{second_of}
use Rattle.second.specs.Admitted.{admitted_of}
use Rattle.second.specs.Ranges.{PlaceRanged, Ranged}
use Rattle.second.specs.Parts.{memory_sized, costs_sized}

-- ---- what the code gives
pub admitted_yes : (s : Second) (parents : List ℕ) (b p : Bool) → s.enabled ≡ true → b ≡ Carrier.admitted_of s.carrier → p ≡ are_states parents → (b && p) ≡ admitted_of s parents
unfolding admitted_of
admitted_yes s parents b p t e f = rw (t, e, f)

pub admitted_no : (s : Second) (parents : List ℕ) → s.enabled ≡ false → true ≡ admitted_of s parents
unfolding admitted_of
admitted_no s parents t = rw t

-- ---- ADMITTED, AND IN RANGE
pub admitted_ranged : (s : Second) (parents : List ℕ) → admitted_of s parents ≡ true → s.enabled ≡ true → PlaceRanged s parents
admitted_ranged s parents h t =
    let both : (Carrier.admitted_of s.carrier && are_states parents) ≡ true = admitted_yes s parents _ _ t refl refl ∙ h in
    let each = and_true (Carrier.admitted_of s.carrier) (are_states parents) both in
    record { carrier = CarrierLaws.admitted_ranged s.carrier each.0; table = states_table parents each.1 }

ranged_when : (b : Bool) (s : Second) (parents : List ℕ) → s.enabled ≡ b → (s.enabled ≡ true → PlaceRanged s parents) → admitted_of s parents ≡ true
ranged_when true s parents e h =
    let r = h e in
    sym (admitted_yes s parents true true e (sym (CarrierLaws.ranged_admitted s.carrier r.carrier)) (sym (table_states parents r.table)))
ranged_when false s parents e h = sym (admitted_no s parents e)

pub ranged_admitted : (s : Second) (parents : List ℕ) → (s.enabled ≡ true → PlaceRanged s parents) → admitted_of s parents ≡ true
ranged_admitted s parents h = ranged_when s.enabled s parents refl h

-- ---- with the planes' lengths
pub place_ranged : (s : Second) (m : List Float) (parents : List ℕ) → PlaceRanged s parents → 9280 ≤ length m → length parents ≡ 2048 → Ranged (second_of s m parents)
place_ranged s m parents h l n = record {
  alternation = h.carrier.alternation;
  detector = record {
    skeleton = record { place = h.carrier.detector; table = h.table; costs_size = costs_sized m l; parents_size = n };
    memory = memory_sized m l;
  };
}

pub ranged_place : (s : Second) (m : List Float) (parents : List ℕ) → Ranged (second_of s m parents) → PlaceRanged s parents
ranged_place s m parents h = record {
  carrier = record { alternation = h.alternation; detector = h.detector.skeleton.place };
  table = h.detector.skeleton.table;
}
