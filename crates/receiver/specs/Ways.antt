-- Setup, reading and enabling, by their ways out: what the code gives there is what the definition says. Assumes nothing.
use Rattle.std.specs.Prelude.{◌≡◌, Bool, true, false, List, ◌*◌, ◌≤◌, ◌<◌, ℤ, length, replicate, Float, Ok, Err}
use Rattle.std.proofs.Common.{sym, ◌∙◌}
use borrow.Author.Tests.{lt-ltb, le-ltb}
use Rattle.laws.specs.Branches.{cond_yes, cond_no}
use Rattle.signal.specs.declared.Reading.{Reading as Shown}
use Rattle.signal.specs.Signal.{Read, view_of, read_of}
use Rattle.resampler.specs.declared.dimensions.Dimensions.{Dimensions}
use Rattle.resampler.specs.Dimensions.{sized_of}
use Rattle.resampler.specs.Design.{written_of}
use Rattle.front.specs.declared.FrontPlace.{FrontPlace}
use Rattle.second.specs.declared.Second.{Second}
use Rattle.second.specs.Second.{fresh_second, fresh_floats}
use Rattle.checks.specs.declared.refusal.Refusal.TheVariants.{Rate, Offset, Table, State}
use Rattle.receiver_state.specs.declared.state.Receiver.{Receiver}
use Rattle.receiver_state.specs.State.{fresh_front, fresh_receiver}
use Rattle.receiver.specs.Admitted.{admitted_of}
use Rattle.checks.specs.Fits.{fits_from}
use Rattle.checks.specs.Checks.{rate_refused, offset_refused}
use Rattle.receiver.specs.Setup.{setup_now, setup_of}
use Rattle.receiver.specs.Reading.{points_now, reading_of}
use Rattle.receiver.specs.Enable.{enabled_now, with_second, started_of, enabled_of, enable_of}

-- ---- setup
module _ (rate offset : Float) (profile : ℤ) (table : List Float) where
  pub setup_rate : (b : Bool) → b ≡ rate_refused rate → b ≡ true → setup_now (Err Rate) table ≡ setup_of rate offset profile table
  unfolding setup_of
  setup_rate b e t = rw (← e, t)

  pub setup_offset : (a b : Bool) → a ≡ rate_refused rate → a ≡ false → b ≡ offset_refused rate offset → b ≡ true → setup_now (Err Offset) table ≡ setup_of rate offset profile table
  unfolding setup_of
  setup_offset a b d f e t = rw (← d, f, ← e, t)

  pub setup_table : (a b : Bool) (d : Dimensions) → a ≡ rate_refused rate → a ≡ false → b ≡ offset_refused rate offset → b ≡ false → d ≡ sized_of rate → length table < 32 * d.arm
      → setup_now (Err Table) table ≡ setup_of rate offset profile table
  unfolding setup_of
  setup_table a b d p f e k m l = rw (← p, f, ← e, k, ← m, lt-ltb (length table) (32 * d.arm) l)

  pub setup_accepted : (a b : Bool) (d : Dimensions) (front : FrontPlace) (r : Receiver) (after : List Float) → a ≡ rate_refused rate → a ≡ false → b ≡ offset_refused rate offset → b ≡ false
      → d ≡ sized_of rate → 32 * d.arm ≤ length table → after ≡ written_of d.arm d.rate table → front ≡ fresh_front rate offset d → r ≡ fresh_receiver front profile
      → setup_now (Ok r) after ≡ setup_of rate offset profile table
  unfolding setup_of
  setup_accepted a b d front r after p f e k m l w h g = rw (← p, f, ← e, k, ← m, le-ltb (length table) (32 * d.arm) l, w, g, h)

-- ---- reading
-- an admitted state's view can be read
pub view_ranges : (r : Receiver) (b : Bool) → b ≡ admitted_of r → b ≡ true → (r.chain.view.head < 1024) × (r.chain.view.count ≤ 1024)
view_ranges r b e t =
    let k = fits_from r.total r.front r.chain r.second r.planes.decisions.parents r.ancestors (sym e ∙ t) in
    (k.chain_fits_lem.view.head, k.chain_fits_lem.view.count)

pub reading_accepted : (r : Receiver) (output after : List Float) (p : Shown) (b : Bool) → b ≡ admitted_of r → b ≡ true
    → ◌≡◌ {A = Read} (record { reading = p; output = after }) (read_of (view_of r.chain.view r.planes.decisions.view.real r.planes.decisions.view.imaginary) output)
    → points_now (Ok (record { count = p.count; error = p.error })) after ≡ reading_of r output
unfolding reading_of
reading_accepted r output after p b e t h = rw (← e, t, ← h)

pub reading_refused : (r : Receiver) (output : List Float) (b : Bool) → b ≡ admitted_of r → b ≡ false → points_now (Err State) output ≡ reading_of r output
unfolding reading_of
reading_refused r output b e f = rw (← e, f)

-- ---- enabling
module _ (r : Receiver) (b : Bool) (e : b ≡ admitted_of r) where
  accepted : (s : Receiver) → b ≡ true → s ≡ enabled_of r → enabled_now (Ok tt) s ≡ enable_of r
  unfolding enable_of
  accepted s t h = rw (← e, t, h)

  pub enable_again : b ≡ true → r.second.enabled ≡ true → enabled_now (Ok tt) r ≡ enable_of r
  unfolding enabled_of
  enable_again t h = accepted r t (cond_yes r.second.enabled r (started_of r) h)

  pub enable_started : (s : Second) (memory : List Float) → b ≡ true → r.second.enabled ≡ false → s ≡ fresh_second → memory ≡ fresh_floats
      → enabled_now (Ok tt) (with_second r s memory (replicate 2048 0)) ≡ enable_of r
  unfolding enabled_of started_of
  enable_started s memory t h p q =
      let started = with_second r s memory (replicate 2048 0) in
      accepted started t (cond_no r.second.enabled r (started_of r) started h (rw (p, q)))

  pub enable_refused : b ≡ false → enabled_now (Err State) r ≡ enable_of r
  unfolding enable_of
  enable_refused f = rw (← e, f)
