-- The costs that a step of the trellis leaves keep the invariant of Costs, so each lies within 0 to 48, whatever was received and whatever the channels hold.
-- Assumes nothing.
use Rattle.std.specs.Prelude.{◌≡◌, refl, ◌⊎◌, Bool, true, false, not, cond, ◌&&◌, ◌||◌, List, Float}
use Rattle.std.proofs.Math.Path.{ap, ap₂, subst}
use Rattle.std.proofs.Common.{sym, ◌∙◌, inl, inr, add-one}
use Prim.Native.Nat.{ℕ, zero, suc, ◌+◌, ◌*◌, ◌/◌, ◌%◌, ◌≤◌, ◌<◌}
use Rattle.std.proofs.Math.Nat.{le-suc_iff}
use native.Mathlib.Omega.{arith}
use Rattle.std.proofs.Math.ListN.{get_or}
use Rattle.std.proofs.Math.Dec.{T}
use Rattle.std.specs.Float.Ieee.{nan, binary32, of_bits, add, sub, div, le, lt, eq}
use Rattle.std.specs.Float.{inf}
use Rattle.std.specs.Float.Ieee.Scale.{finite}
use Rattle.std.specs.Float.Ieee.Fits.{and_l}
use Rattle.laws.specs.Turns.{turns}
use Rattle.laws.specs.Places.{upto, upto_at}
use Rattle.laws.specs.FloatOrder.{or_split, or_l, or_r, le_self, le_trans', not_lt→le}
use Rattle.laws.specs.FloatSums.{In, in_finite}
use Rattle.numbers.specs.Numbers.{sign_of}
use Rattle.complex.specs.declared.Complex32.{Complex32}
use Rattle.complex.specs.Planes.{Planes}
use Rattle.channels.specs.Channels.{prediction_of}
use Rattle.arrivals.specs.declared.choice.Branch.{Branch}
use Rattle.trellis.specs.declared.best.Least.{Least}
use Rattle.arrivals.specs.Arrivals.{metric_of, better, no_branch, branch_of, chosen_of, arrival_of}
use Rattle.trellis.specs.Trellis.{arrived_of, precedes, best_turn, best_of, advanced_of}
use Rattle.trellis.specs.Metric.{c0, nought, metric_in}
use Rattle.trellis.specs.Costs.{c48, c64, cand, cheaper, kept, next, Good}
use Rattle.trellis.proofs.CostsLaws.{fresh_good, keeps, good_next, good_same}

-- ---- the best state is a cheapest one
precedes_le : (x y : Float) → T (precedes x y) → T (le x y)
unfolding precedes le
precedes_le x y h = elim (or_split (lt x y) (eq x y && (sign_of x && not (sign_of y))) h) [
  | inl u ↦ or_l (lt x y) (eq x y) u
  | inr u ↦ or_r (lt x y) (eq x y) (and_l (eq x y) (sign_of x && not (sign_of y)) u)
]

not_precedes_le : (x y : Float) → T (finite x) → T (finite y) → T (not (precedes x y)) → T (le y x)
unfolding precedes
not_precedes_le x y p q h = not_lt→le x y p q (go (lt x y) (eq x y && (sign_of x && not (sign_of y))) h)
  where
    go : (a b : Bool) → T (not (a || b)) → T (not a)
    go true b h = h
    go false b h = tt

-- of the states 0 to n, b is one, with its cost, and none is cheaper
pub record Found (l : List Float) (n : ℕ) (b : Least) : Type 0 where
  pub inside : b.state ≤ n
  pub its : b.cost ≡ get_or l b.state nan
  pub cheapest : (s : ℕ) → s ≤ n → T (le b.cost (get_or l s nan))

module _ (l : List Float) (finites : (s : ℕ) → s < 64 → T (finite (get_or l s nan))) where
  found_turn : (n : ℕ) (b : Least) → suc n < 64 → Found l n b → Found l (suc n) (best_turn l n b)
  found_turn n b h f = rw add-one (go (precedes x b.cost) (precedes_le x b.cost) (not_precedes_le x b.cost X B))
    where
      x : Float
      x = get_or l (suc n) nan

      X : T (finite x)
      X = finites (suc n) h

      B : T (finite b.cost)
      B = let i = f.inside in subst (λ (z : Float). T (finite z)) (sym f.its) (finites b.state (omega arith))

      go : (t : Bool) → (T t → T (le x b.cost)) → (T (not t) → T (le b.cost x)) → Found l (suc n) (cond t (record { state = suc n; cost = x }) b)
      go true k m = record { inside = omega arith; its = refl; cheapest = λ s q. at s (le-suc_iff.0 q) }
        where
          at : (s : ℕ) → (s ≤ n) ⊎ (s ≡ suc n) → T (le x (get_or l s nan))
          at s (inl q) = le_trans' x b.cost (get_or l s nan) X B (finites s (omega arith)) (k tt) (f.cheapest s q)
          at s (inr e) = subst (λ (z : ℕ). T (le x (get_or l z nan))) (sym e) (le_self x X)
      go false k m = let i = f.inside in record { inside = omega arith; its = f.its; cheapest = λ s q. at s (le-suc_iff.0 q) }
        where
          at : (s : ℕ) → (s ≤ n) ⊎ (s ≡ suc n) → T (le b.cost (get_or l s nan))
          at s (inl q) = f.cheapest s q
          at s (inr e) = subst (λ (z : ℕ). T (le b.cost (get_or l z nan))) (sym e) (m tt)

  found : (n : ℕ) → n < 64 → Found l n (turns (best_turn l) n (record { state = 0; cost = get_or l 0 nan }))
  unfolding turns
  found zero h = record { inside = omega arith; its = refl; cheapest = λ s q. let e : 0 ≡ s = omega arith in subst (λ (z : ℕ). T (le (get_or l 0 nan) (get_or l z nan))) e (le_self (get_or l 0 nan) (finites 0 h)) }
  found (suc n) h = found_turn n (turns (best_turn l) n (record { state = 0; cost = get_or l 0 nan })) h (found n (omega arith))

  pub best_found : Found l 63 (best_of l)
  unfolding best_of
  best_found = found 63 (omega arith)

-- ---- an arrival's cost, in the invariant's terms
better_cost : (x y : Branch) → (better x y).cost ≡ cheaper x.cost y.cost
unfolding better
better_cost x y = go (lt y.cost x.cost)
  where
    go : (t : Bool) → (cond t y x).cost ≡ cond t y.cost x.cost
    go true = refl
    go false = refl

no_sum : no_branch.cost ≡ inf false
unfolding of_bits div
no_sum = refl

module _ (c : Planes) (costs : List Float) (input : Complex32) (reliable : Bool) where
  abbrev held : ℕ → Float
  held p = get_or costs p nan

  abbrev metrics : ℕ → ℕ → Float
  metrics p k = metric_of input (prediction_of c k p) reliable

  branch_cost : (s r p : ℕ) → s / 4 + 16 * r ≡ p → (branch_of c costs input reliable (s % 4) p).cost ≡ cand held metrics s r
  unfolding cand
  branch_cost s r p e = ap (λ (z : ℕ). add binary32 (held z) (metrics z (s % 4))) (sym e)

  arrival_cost : (s : ℕ) → (arrival_of c costs input reliable s).cost ≡ kept held metrics s
  unfolding chosen_of kept
  arrival_cost s =
      rw (better_cost, better_cost, better_cost, better_cost, no_sum)
      (ap₂ cheaper
      (ap₂ cheaper
      (ap₂ cheaper
      (ap (λ (z : Float). cheaper (inf false) z) (branch_cost s 0 (s / 4) (omega arith)))
      (branch_cost s 1 (s / 4 + 16) (omega arith)))
      (branch_cost s 2 (s / 4 + 32) (omega arith)))
      (branch_cost s 3 (s / 4 + 48) (omega arith)))

  arrived : (s : ℕ) → s < 64 → get_or (arrived_of c costs input reliable) s nan ≡ kept held metrics s
  arrived s h = upto_at (λ s. (arrival_of c costs input reliable s).cost) 64 s nan h ∙ arrival_cost s

  module _ (g : Good held) where
    arrived_finite : (s : ℕ) → s < 64 → T (finite (get_or (arrived_of c costs input reliable) s nan))
    arrived_finite s h = rw (arrived s h) (in_finite c0 c64 (kept held metrics s) tt tt (keeps held metrics g (λ p q a b. metric_in input (prediction_of c q p) reliable) s h).ok)

    abbrev b : Least
    b = best_of (arrived_of c costs input reliable)

    f : Found (arrived_of c costs input reliable) 63 b
    f = best_found (arrived_of c costs input reliable) arrived_finite

    inside : b.state < 64
    inside = let i = f.inside in omega arith

    best_cost : b.cost ≡ kept held metrics b.state
    best_cost = f.its ∙ arrived b.state inside

    stepped : (s : ℕ) → s < 64 → get_or (advanced_of c costs input reliable).costs s nan ≡ next held metrics b.state s
    unfolding advanced_of next
    stepped s h = upto_at (λ s. sub binary32 (get_or (arrived_of c costs input reliable) s nan) b.cost) 64 s nan h ∙ ap₂ (sub binary32) (arrived s h) best_cost

    pub good_step : Good (λ s. get_or (advanced_of c costs input reliable).costs s nan)
    good_step =
        good_same (next held metrics b.state) (λ s. get_or (advanced_of c costs input reliable).costs s nan) (λ s h. sym (stepped s h))
        (good_next held metrics g (λ p q x y. metric_in input (prediction_of c q p) reliable) b.state inside
        (λ s h. subst (λ (z : Float). T (le z (kept held metrics s))) best_cost (subst (λ (z : Float). T (le b.cost z)) (arrived s h) (f.cheapest s (omega arith)))))

pub good_start : Good (λ s. get_or (upto (λ s. of_bits binary32 0) 64) s nan)
good_start = good_same (λ s. c0) (λ s. get_or (upto (λ s. of_bits binary32 0) 64) s nan) (λ s h. sym (upto_at (λ s. of_bits binary32 0) 64 s nan h ∙ nought)) fresh_good

pub in_range : (l : List Float) → Good (λ s. get_or l s nan) → (s : ℕ) → s < 64 → In c0 c48 (get_or l s nan)
in_range l g s h = g.ranged s h
