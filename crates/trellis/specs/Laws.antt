-- What the proofs of the trellis' functions apply, over plain variables. Assumes nothing.
use Rattle.std.specs.Prelude.{◌≡◌, ℕ, zero, suc, ◌+◌, ◌≤◌, ◌<◌, Bool, true, false, cond, List, length, get_or, Float}
use Rattle.std.proofs.Common.{sym, subst, arith}
use Rattle.std.specs.Float.{nan, binary32}
use Rattle.std.specs.Float.Ieee.{sub}
use Rattle.laws.specs.Turns.{turns}
use Rattle.laws.specs.Places.{upto}
use Rattle.complex.specs.declared.Complex32.{Complex32}
use Rattle.complex.specs.Planes.{Planes}
use Rattle.channels.specs.Channels.{Parents}
use Rattle.arrivals.specs.Arrivals.{arrival_of}
use Rattle.arrivals.specs.Laws.{arrived_parents}
use Rattle.arrivals.specs.Runs.{each_turn, each_end}
use Rattle.trellis.specs.declared.best.Least.{Least}
use Rattle.trellis.specs.Trellis.{arrived_of, precedes, best_turn, best_of, Advance, advanced_of}
use Rattle.trellis.specs.Layout.{Plain, Values}
use Rattle.trellis.specs.Plain.{arrived_plain}

-- ---- one cost taken off all
unfoldable pub off_turn : Float → ℕ → List Float → List Float
off_turn least = each_turn nan (λ z. sub binary32 z least)

pub off_end : (least : Float) (i : ℕ) (l m : List Float) → m ≡ turns (off_turn least) i l → i ≤ 64 → 64 ≤ i → length l ≡ 64 → m ≡ upto (λ s. sub binary32 (get_or l s nan) least) 64
unfolding off_turn
off_end least = each_end nan (λ z. sub binary32 z least) 64

-- ---- the best state is a state
best_turn_lem : (l : List Float) (k : ℕ) (b : Least) → b.state ≤ k → (best_turn l k b).state ≤ k + 1
best_turn_lem l k b h = go (precedes (get_or l (k + 1) nan) b.cost)
  where
    go : (t : Bool) → (cond t (record { state = k + 1; cost = get_or l (k + 1) nan }) b).state ≤ k + 1
    go true = omega arith
    go false = omega arith

best_within : (l : List Float) (n : ℕ) → (turns (best_turn l) n (record { state = 0; cost = get_or l 0 nan })).state ≤ n
unfolding turns
best_within l zero = omega arith
best_within l (suc n) = let h = best_turn_lem l n (turns (best_turn l) n (record { state = 0; cost = get_or l 0 nan })) (best_within l n) in omega arith

pub best_below : (l : List Float) → (best_of l).state < 64
unfolding best_of
best_below l = let h = best_within l 63 in omega arith

-- ---- the step
pub advance_asks : (c : Planes) (costs : List Float) (input : Complex32) (reliable : Bool) (l : List Float) → l ≡ arrived_of c costs input reliable → Values costs → Plain l
advance_asks c costs input reliable l e v = subst Plain (sym e) (arrived_plain c costs input reliable v)

pub advance_is : (c : Planes) (costs : List Float) (input : Complex32) (reliable : Bool) (l m real imaginary : List Float) (parents : List ℕ) (b : Least)
    → l ≡ arrived_of c costs input reliable
    → parents ≡ upto (λ s. (arrival_of c costs input reliable s).prior) 64
    → real ≡ upto (λ s. (arrival_of c costs input reliable s).real) 64
    → imaginary ≡ upto (λ s. (arrival_of c costs input reliable s).imaginary) 64
    → b ≡ best_of l
    → m ≡ upto (λ s. sub binary32 (get_or l s nan) b.cost) 64
    → ◌≡◌ {A = Advance} (record { best = b.state; costs = m; parents = parents; predictions = record { real = real; imaginary = imaginary } }) (advanced_of c costs input reliable)
unfolding advanced_of
advance_is c costs input reliable l m real imaginary parents b el ep er ei eb em = rw (em, eb, el, ep, er, ei)

pub advance_near : (c : Planes) (costs : List Float) (input : Complex32) (reliable : Bool) (l : List Float) (parents : List ℕ) (b : Least)
    → parents ≡ upto (λ s. (arrival_of c costs input reliable s).prior) 64 → b ≡ best_of l → (b.state < 64) × Parents parents
advance_near c costs input reliable l parents b ep eb = (subst (λ (z : Least). z.state < 64) (sym eb) (best_below l), subst Parents (sym ep) (arrived_parents c costs input reliable))
