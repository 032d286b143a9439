-- The second stream through a list of values: it stays enabled or not, and its arrays keep their sizes. Assumes nothing.
use Rattle.std.specs.Prelude.{◌≡◌, Bool, true, false, length, Option, Some, None, Float}
use Rattle.std.proofs.Math.Path.{refl}
use Rattle.std.proofs.Common.{sym, ◌∙◌, subst, arith, length-append}
use mathlib.Core.List.{List, [], ◌∷◌}
use Rattle.complex.specs.declared.Complex32.{Complex32}
use Rattle.recovery.specs.declared.step.Found.{Found}
use Rattle.recovery.specs.Recovery as recovery
use Rattle.decisions.specs.Decisions as decisions
use Rattle.drift_tracker.specs.Drift.{Memory}
use Rattle.drift_detector.specs.Ranges.{Sized}
use Rattle.second.specs.Second.{SecondState, memory_of, costs_of, joined_of}
use Rattle.second.specs.Parts.{join_split}
use Rattle.second.specs.Laws.{other_enabled}
use Rattle.delivery.specs.declared.DeliveryPlace.{DeliveryPlace}
use Rattle.chain.specs.Chain.{ChainState, recovery_of, decisions_of, delivery_of, heard_of, stepped_of}
use Rattle.chain.specs.Rows.{Told, told, ran_of}
use Rattle.chain.specs.Ranges.{Ranged}
use Rattle.chain.specs.RowLaws.{all_ran, ran_off}
use Rattle.answers.specs.declared.soft.Soft.{Soft}

pub joined_length : (m : Memory) (costs : List Float) → length m.channels.real ≡ 256 → length m.channels.imaginary ≡ 256 → length m.drift ≡ 512 → length m.inverse ≡ 8192 → length costs ≡ 64
    → length (joined_of m costs) ≡ 9280
unfolding joined_of
joined_length m costs a b c d e = simp length-append (omega arith)

heard_enabled : (f : Option Found) (r : recovery.RecoveryState) (d : decisions.DecisionsState) (s : SecondState) (p : DeliveryPlace) (oldest : Option Soft) → (heard_of f r d s p oldest).state.second.enabled ≡ s.enabled
unfolding heard_of
heard_enabled None r d s p oldest = refl
heard_enabled (Some found) r d s p oldest = other_enabled s _ found.symbol found.reliable

module _ (taps derivatives : List Float) where
  pub step_enabled : (s : ChainState) (z : Complex32) (oldest : Option Soft) → (stepped_of taps derivatives s z oldest).state.second.enabled ≡ s.second.enabled
  unfolding stepped_of
  step_enabled s z oldest = let k = recovery.stepped_of taps derivatives (recovery_of s) z in heard_enabled k.found k.state (decisions_of s) s.second (delivery_of s.place) oldest

  -- no value enables it or ends it
  pub ran_enabled : (values : List Complex32) (t : Told) → (ran_of taps derivatives values t).state.second.enabled ≡ t.state.second.enabled
  unfolding ran_of told
  ran_enabled [] t = refl
  ran_enabled (z ∷ values) t = ran_enabled values (told taps derivatives t z) ∙ step_enabled t.state z _

-- its floats are 9,280 and its parents 2,048
pub record SecondSized (s : SecondState) : Type 0 where
  pub floats : length (joined_of s.memory s.costs) ≡ 9280
  pub parents : length s.parents ≡ 2048

-- its floats, put together into one array, are taken apart again as they were
pub record SplitsBack (s : SecondState) : Type 0 where
  pub memory : memory_of (joined_of s.memory s.costs) ≡ s.memory
  pub costs : costs_of (joined_of s.memory s.costs) ≡ s.costs

module _ (taps derivatives : List Float) where
  pub ran_sized : (values : List Complex32) (t : Told) → Ranged t.state → SecondSized t.state.second → SecondSized (ran_of taps derivatives values t).state.second
  ran_sized values t h k = go t.state.second.enabled refl
    where
      go : (b : Bool) → t.state.second.enabled ≡ b → SecondSized (ran_of taps derivatives values t).state.second
      go true e =
          let g = (all_ran taps derivatives values t h).ranged.second (ran_enabled taps derivatives values t ∙ e) in
          let m = g.detector.memory in
          record { floats = joined_length _ _ m.real_size m.imaginary_size m.drift_size m.inverse_size g.detector.skeleton.costs_size; parents = g.detector.skeleton.parents_size }
      go false e = subst SecondSized (sym (ran_off t.state.second e taps derivatives values t e).1) k

  -- and put together into one array it is taken apart again as it was
  pub ran_splits : (values : List Complex32) (t : Told) → Ranged t.state → Sized t.state.second.memory → length t.state.second.costs ≡ 64 → SplitsBack (ran_of taps derivatives values t).state.second
  ran_splits values t h m c = go t.state.second.enabled refl
    where
      split : (s : SecondState) → Sized s.memory → length s.costs ≡ 64 → SplitsBack s
      split s m c = let j = join_split s.memory s.costs m c in record { memory = j.0; costs = j.1 }

      go : (b : Bool) → t.state.second.enabled ≡ b → SplitsBack (ran_of taps derivatives values t).state.second
      go true e =
          let g = (all_ran taps derivatives values t h).ranged.second (ran_enabled taps derivatives values t ∙ e) in
          split _ g.detector.memory g.detector.skeleton.costs_size
      go false e = subst SplitsBack (sym (ran_off t.state.second e taps derivatives values t e).1) (split t.state.second m c)
