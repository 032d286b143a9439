-- The front: each sample is mixed and decimated, and a decimated value goes into the ring and makes up to two values due. Definitions only.
use Rattle.std.specs.Prelude.{ℕ, ◌+◌, ◌-◌, ◌*◌, ◌/◌, Bool, cond, ltb, length, get_or, Float, Option, None}
use Prim.Native.Nat as Nat
use mathlib.Core.List.{List, [], ◌++◌, map, foldl}
use Rattle.std.proofs.lemmas.List.Edits.{sets}
use Rattle.std.specs.Float.{nan}
use Rattle.laws.specs.Turns.{turns, until}
use Rattle.laws.specs.Places.{upto}
use Rattle.complex.specs.declared.Complex32.{Complex32}
use Rattle.oscillator.specs.declared.Oscillator.{Oscillator}
use Rattle.oscillator.specs.Oscillator.{turned_of, mixed_of}
use Rattle.decimator.specs.declared.Decimator.{Decimator}
use Rattle.decimator.specs.declared.Step.{Step}
use Rattle.decimator.specs.Decimator.{counts_of, absorbed_of, stepped_of}
use Rattle.front.specs.Resample.{ResamplerState, resample_state, resample_values}
use Rattle.front.specs.declared.FrontPlace.{FrontPlace}
use Rattle.front.specs.declared.Fronted.{Fronted}
use Rattle.front.specs.declared.Gathering.{Gathering}
use Rattle.front.specs.declared.Drawn.{Drawn}
use Rattle.front.specs.declared.Offering.{Offering}

-- ---- samples

-- sample k of a row of floats, its parts side by side
abbrev pub sample_at : List Float → ℕ → Complex32
sample_at xs k = record { real = get_or xs (2 * k) nan; imaginary = get_or xs (2 * k + 1) nan }

-- all of them
unfoldable pub samples_of : List Float → List Complex32
samples_of xs = upto (sample_at xs) (length xs / 2)

-- ---- one sample

-- a front and both planes of its ring
pub record Rung : Type 0 where
  pub place : FrontPlace
  pub real : List Float
  pub imaginary : List Float

abbrev pub ring_of : Rung → ResamplerState
ring_of r = record { resampler = r.place.resampler; real = r.real; imaginary = r.imaginary }

abbrev pub rung_of : Oscillator → Decimator → ResamplerState → Rung
rung_of o d h = record { place = record { oscillator = o; decimator = d; resampler = h.resampler }; real = h.real; imaginary = h.imaginary }

-- a front, and values that it made
pub record Run : Type 0 where
  pub rung : Rung
  pub values : List Complex32

-- the sample times the oscillator, through the decimator
abbrev pub step_of : Bool → Oscillator → Decimator → Complex32 → Step
step_of conjugated o d x = stepped_of d (mixed_of o x conjugated)

-- and what comes of it, if anything does, into the ring
unfoldable pub front_step : Bool → List Float → Rung → Complex32 → Run
front_step conjugated table r x =
    let s = step_of conjugated r.place.oscillator r.place.decimator x in
    record { rung = rung_of (turned_of r.place.oscillator) s.decimator (resample_state table (ring_of r) s.output); values = resample_values table (ring_of r) s.output }

-- ---- a row of samples: the values are those before, and those of each sample after them
unfoldable pub more : Bool → List Float → Run → Complex32 → Run
more conjugated table h x = record { rung = (front_step conjugated table h.rung x).rung; values = h.values ++ (front_step conjugated table h.rung x).values }

unfoldable pub front_over : Bool → List Float → Run → List Complex32 → Run
front_over conjugated table h zs = foldl (more conjugated table) h zs

-- the first n samples of xs
abbrev pub front_turn : Bool → List Float → List Float → ℕ → Run → Run
front_turn conjugated table xs k h = more conjugated table h (sample_at xs k)

unfoldable pub front_of : Bool → List Float → List Float → ℕ → Run → Run
front_of conjugated table xs n h = turns (front_turn conjugated table xs) n h

-- ---- a row of values: two planes, of which the first `made` places hold values
pub record Row : Type 0 where
  pub real : List Float
  pub imaginary : List Float
  pub made : ℕ

abbrev pub real_of : Complex32 → Float
real_of z = z.real

abbrev pub imaginary_of : Complex32 → Float
imaginary_of z = z.imaginary

unfoldable pub laid_of : List Complex32 → Row → Row
laid_of zs r = record { real = sets r.real r.made (map real_of zs); imaginary = sets r.imaginary r.made (map imaginary_of zs); made = r.made + length zs }

-- a front, its row, and which sample is next
pub record Front : Type 0 where
  pub rung : Rung
  pub row : Row
  pub at : ℕ

unfoldable pub took_of : Bool → List Float → List Float → Front → Front
took_of conjugated table xs f = record {
  rung = (front_step conjugated table f.rung (sample_at xs f.at)).rung;
  row = laid_of (front_step conjugated table f.rung (sample_at xs f.at)).values f.row;
  at = f.at + 1;
}

-- no room for two more values
abbrev pub is_full : Front → Bool
is_full f = ltb 254 f.row.made

-- samples until they are used up or the row is full
unfoldable pub filled_of : Bool → List Float → List Float → Front → Front
filled_of conjugated table xs f = until is_full (took_of conjugated table xs) (length xs / 2 - f.at) f

-- what a call was lent, and what it leaves of it
abbrev pub front_now : Fronted → ℕ → List Float → List Float → List Float → List Float → Front
front_now t from ring_real ring_imaginary row_real row_imaginary = record {
  rung = record { place = t.place; real = ring_real; imaginary = ring_imaginary };
  row = record { real = row_real; imaginary = row_imaginary; made = t.made };
  at = from + t.used;
}

abbrev pub start_of : FrontPlace → Fronted
start_of place = record { place = place; used = 0; made = 0 }

-- ---- a run: as many samples as the decimator's next output needs, or as there are
abbrev pub run_of : Decimator → ℕ → ℕ
run_of d left = Nat.min left (d.decimation - d.counter)

abbrev pub draw_turn : Bool → List Float → ℕ → ℕ → Drawn → Drawn
draw_turn conjugated xs from k q =
    let s = step_of conjugated q.oscillator q.decimator (sample_at xs (from + k)) in
    record { oscillator = turned_of q.oscillator; decimator = s.decimator; output = s.output; run = k + 1 }

abbrev pub draw_start : FrontPlace → Drawn
draw_start p = record { oscillator = p.oscillator; decimator = p.decimator; output = None; run = 0 }

unfoldable pub drawn_of : Bool → List Float → ℕ → ℕ → FrontPlace → Drawn
drawn_of conjugated xs from left p = turns (draw_turn conjugated xs from) (run_of p.decimator left) (draw_start p)

-- the same into the integrators alone
abbrev pub gathered_of : Bool → Gathering → Complex32 → Gathering
gathered_of conjugated g x = record { oscillator = turned_of g.oscillator; integrators = absorbed_of g.integrators (counts_of (mixed_of g.oscillator x conjugated)) }

abbrev pub gather_turn : Bool → List Float → ℕ → ℕ → Gathering → Gathering
gather_turn conjugated xs from k g = gathered_of conjugated g (sample_at xs (from + k))

unfoldable pub gather_of : Bool → List Float → ℕ → ℕ → Gathering → Gathering
gather_of conjugated xs from n g = turns (gather_turn conjugated xs from) n g

-- ---- a decimated value, or none: the ring and the row after it
pub record Offered : Type 0 where
  pub ring : ResamplerState
  pub row : Row

abbrev pub offered_of : List Float → Offered → Option Complex32 → Offered
offered_of table f o = record { ring = resample_state table f.ring o; row = laid_of (resample_values table f.ring o) f.row }

abbrev pub offered_now : Offering → List Float → List Float → List Float → List Float → Offered
offered_now l ring_real ring_imaginary row_real row_imaginary = record {
  ring = record { resampler = l.resampler; real = ring_real; imaginary = ring_imaginary };
  row = record { real = row_real; imaginary = row_imaginary; made = l.made };
}

-- a run, and what its last sample gave
abbrev pub advanced_with : List Float → Front → Drawn → Front
advanced_with table f q = record { rung = rung_of q.oscillator q.decimator (resample_state table (ring_of f.rung) q.output); row = laid_of (resample_values table (ring_of f.rung) q.output) f.row; at = f.at + q.run }

unfoldable pub advanced_of : Bool → List Float → List Float → Front → Front
advanced_of conjugated table xs f = advanced_with table f (drawn_of conjugated xs f.at (length xs / 2 - f.at) f.rung.place)

-- ---- the first n values of a row, as a list
unfoldable pub rowed : List Float → List Float → ℕ → List Complex32
rowed real imaginary n = upto (λ k. record { real = get_or real k nan; imaginary = get_or imaginary k nan }) n

-- ---- the values that the k samples from sample n on make
abbrev pub rung_at : Bool → List Float → List Float → ℕ → Rung → Rung
rung_at conjugated table xs n r = (front_of conjugated table xs n (record { rung = r; values = [] })).rung

unfoldable pub made_of : Bool → List Float → List Float → ℕ → ℕ → Rung → List Complex32
made_of conjugated table xs n k r = turns (λ i vs. vs ++ (front_step conjugated table (rung_at conjugated table xs (n + i) r) (sample_at xs (n + i))).values) k []

-- how far the filters reach back, in samples, the first of them being the first after an output: c decimated values, and three outputs more until the combs are renewed
abbrev pub reach_of : FrontPlace → ℕ
reach_of p = cond (ltb 1 p.decimator.decimation) ((p.resampler.arm + 3) * p.decimator.decimation) p.resampler.arm
