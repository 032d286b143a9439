-- The state of zeros is not admitted, a fresh one is, and so is the one that an accepted setup leaves. Assumes nothing.
use Rattle.std.specs.Prelude.{◌≡◌, refl, Bool, true, false, List, ℕ, ◌<◌, ℤ, length, Float}
use Rattle.std.proofs.Common.{sym, subst, arith}
use Rattle.std.proofs.lemmas.Bool.{false≢true}
use Rattle.std.proofs.lemmas.List.{get_or-replicate}
use Rattle.resampler.specs.declared.dimensions.Dimensions.{Dimensions}
use Rattle.resampler.specs.Admitted.{Sized}
use Rattle.resampler.specs.Ranges.{sized_in, fresh_admitted as fresh_ready}
use Rattle.resampler.specs.Dimensions as resampler
use Rattle.resampler.specs.Dimensions.{sized_of}
use Rattle.decimator.specs.Decimator as decimator
use Rattle.peak.proofs.Laws as PeakLaws
use Rattle.clock.proofs.Laws.{fresh_admitted}
use Rattle.signal.proofs.Laws as SignalLaws
use Rattle.receiver_state.specs.State.{zero_receiver, zero_front, zero_chain, zero_second, fresh_front, fresh_receiver}
use Rattle.checks.specs.Admitted.{state_fits, totals_fit}
use Rattle.checks.specs.Fits.{fits_to}
use Rattle.checks.specs.Checks.{rate_refused, offset_refused, table_refused}
use Rattle.checks.specs.Ways.{rate_admitted}
use Rattle.receiver.specs.Admitted.{admitted_of}
use Rattle.receiver.specs.Setup.{setup_of}

-- the state that a refused setup gives
pub zero_refused : admitted_of zero_receiver ≡ false
unfolding zero_receiver zero_front zero_chain state_fits totals_fit decimator.fresh_of
zero_refused = refl

-- and an accepted one
pub fresh_fits : (rate offset : Float) (profile : ℤ) (d : Dimensions) → Sized d → admitted_of (fresh_receiver (fresh_front rate offset d) profile) ≡ true
unfolding fresh_receiver zero_second decimator.fresh_of resampler.fresh_of
fresh_fits rate offset profile d k =
    let r = fresh_receiver (fresh_front rate offset d) profile in
    let a = k.decimation_low in
    fits_to r.total r.front r.chain r.second r.planes.decisions.parents r.ancestors (record {
      total_in = omega arith;
      index_in = omega arith;
      locked_in = omega arith;
      symbols_in = omega arith;
      front_fits = record {
        oscillator = record { renormalize_in = omega arith };
        decimator = record { decimation_low = a; decimation_high = k.decimation_high; counter_in = omega arith };
        resampler = fresh_ready d k;
      };
      chain_fits_lem = record {
        keeper = PeakLaws.fresh_admitted;
        clock = fresh_admitted;
        carrier = record { alternation = omega arith; detector = record { write = omega arith; filled = omega arith; earlier = tt } };
        view = SignalLaws.fresh_admitted;
      };
      table = record { below = λ i l. subst (λ (n : ℕ). n < 64) (sym (get_or-replicate 2048 i 0 0 l)) (let z : 0 < 64 = omega arith in z) };
      second_fits = λ on. absurd (false≢true on);
    })

pub setup_admitted : (rate offset : Float) (profile : ℤ) (table : List Float) → (setup_of rate offset profile table).number ≡ 0 → admitted_of (setup_of rate offset profile table).receiver ≡ true
unfolding setup_of
setup_admitted rate offset profile table h = go (rate_refused rate) (offset_refused rate offset) (table_refused rate (length table)) refl refl refl
  where
    go : (a b c : Bool) → rate_refused rate ≡ a → offset_refused rate offset ≡ b → table_refused rate (length table) ≡ c → admitted_of (setup_of rate offset profile table).receiver ≡ true
    go true b c p q e = absurd (let z = rw p at h in omega arith)
    go false true c p q e = absurd (let z = rw (p, q) at h in omega arith)
    go false false true p q e = absurd (let z = rw (p, q, e) at h in omega arith)
    go false false false p q e = rw (p, q, e) (fresh_fits rate offset profile (sized_of rate) (sized_in rate (rate_admitted rate false (sym p) refl)))
