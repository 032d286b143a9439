-- What the proofs of the branches' and the trellis' functions apply, over plain variables. Assumes nothing.
use Rattle.std.specs.Prelude.{◌≡◌, ℕ, ◌+◌, ◌*◌, ◌/◌, ◌%◌, ◌≤◌, ◌<◌, Bool, cond, List, length, get_or, set, Float}
use Rattle.std.proofs.Common.{ap, ◌∙◌, arith}
use Rattle.std.proofs.Math.Bool.{true, false}
use Rattle.std.specs.Float.Ieee.{nan, binary32, add, lt}
use Rattle.laws.specs.Places.{upto, upto_at, upto_same, laid, fill, fill_step}
use Rattle.complex.specs.declared.Complex32.{Complex32}
use Rattle.complex.specs.Planes.{Planes}
use Rattle.channels.specs.Channels.{symbol_of, Parents}
use Rattle.channels.specs.Layout.{past_of, predicted_of}
use Rattle.channels.specs.Laws.{prediction_is}
use Rattle.arrivals.specs.declared.choice.Branch.{Branch}
use Rattle.arrivals.specs.Arrivals.{metric_of, better, no_branch, branch_of, chosen_of, arrival_of}
use Rattle.arrivals.specs.Layout.{sum_with, real_with, imaginary_with, cheaper_of, first_cheapest_of, swept_of}
use Rattle.arrivals.specs.Runs.{tiers, tiers_at}

-- ---- one branch
pub sum_step : (c past : Planes) (costs : List Float) (s input : Complex32) (reliable : Bool) (p : ℕ) (l m : List Float) (prediction : Complex32) (e : Float)
    → prediction ≡ predicted_of c past s p → e ≡ metric_of input prediction reliable → m ≡ fill (sum_with c past costs s input reliable) p l
    → set m p (add binary32 (get_or costs p nan) e) ≡ fill (sum_with c past costs s input reliable) (p + 1) l
unfolding sum_with
sum_step c past costs s input reliable p l m prediction e g f h =
    fill_step (sum_with c past costs s input reliable) p l m (set m p (add binary32 (get_or costs p nan) e))
    (ap (λ (z : Float). set m p (add binary32 (get_or costs p nan) z)) (f ∙ ap (λ (z : Complex32). metric_of input z reliable) g)) h

pub real_step : (c past : Planes) (s : Complex32) (p : ℕ) (l m : List Float) (prediction : Complex32)
    → prediction ≡ predicted_of c past s p → m ≡ fill (real_with c past s) p l → set m p prediction.real ≡ fill (real_with c past s) (p + 1) l
unfolding real_with
real_step c past s p l m prediction g h = fill_step (real_with c past s) p l m (set m p prediction.real) (ap (λ (z : Complex32). set m p z.real) g) h

pub imaginary_step : (c past : Planes) (s : Complex32) (p : ℕ) (l m : List Float) (prediction : Complex32)
    → prediction ≡ predicted_of c past s p → m ≡ fill (imaginary_with c past s) p l → set m p prediction.imaginary ≡ fill (imaginary_with c past s) (p + 1) l
unfolding imaginary_with
imaginary_step c past s p l m prediction g h = fill_step (imaginary_with c past s) p l m (set m p prediction.imaginary) (ap (λ (z : Complex32). set m p z.imaginary) g) h

-- ---- the planes give the choice itself
module _ (c past : Planes) (costs : List Float) (input : Complex32) (reliable : Bool) (k : ℕ)
    (pr : past.real ≡ upto (λ i. (past_of c (i / 64) (i % 64)).real) 192) (pi : past.imaginary ≡ upto (λ i. (past_of c (i / 64) (i % 64)).imaginary) 192) where
  better_is : (b : Branch) (p : ℕ) → p < 64
      → cheaper_of b (upto (sum_with c past costs (symbol_of k) input reliable) 64) (upto (real_with c past (symbol_of k)) 64) (upto (imaginary_with c past (symbol_of k)) 64) p
      ≡ better b (branch_of c costs input reliable k p)
  unfolding cheaper_of sum_with real_with imaginary_with
  better_is b p h =
      rw (
        upto_at (λ p. add binary32 (get_or costs p nan) (metric_of input (predicted_of c past (symbol_of k) p) reliable)) 64 p nan h,
        upto_at (λ p. (predicted_of c past (symbol_of k) p).real) 64 p nan h,
        upto_at (λ p. (predicted_of c past (symbol_of k) p).imaginary) 64 p nan h,
      ) (ap (λ (z : Complex32). better b (record { cost = add binary32 (get_or costs p nan) (metric_of input z reliable); prior = p; real = z.real; imaginary = z.imaginary })) (prediction_is c past k p h pr pi))

  pub round_is : (q : ℕ) → q < 16 → swept_of c past costs input reliable k q ≡ chosen_of c costs input reliable k q
  unfolding swept_of first_cheapest_of chosen_of
  round_is q h = rw (better_is no_branch q (omega arith), better_is _ (q + 16) (omega arith), better_is _ (q + 32) (omega arith), better_is _ (q + 48) (omega arith))

-- ---- one sweep by a symbol, and all four
pub sweep_is : {A : Type 0} (f : Branch → A) (c past : Planes) (costs : List Float) (s input : Complex32) (reliable : Bool) (sums real imaginary : List Float) (k at : ℕ) (l m : List A)
    → s ≡ symbol_of k
    → sums ≡ upto (sum_with c past costs s input reliable) 64
    → real ≡ upto (real_with c past s) 64
    → imaginary ≡ upto (imaginary_with c past s) 64
    → m ≡ laid (λ q. f (first_cheapest_of sums real imaginary q)) at 16 l
    → m ≡ laid (λ q. f (swept_of c past costs input reliable k q)) at 16 l
unfolding swept_of
sweep_is f c past costs s input reliable sums real imaginary k at l m es eu er ei h =
    h ∙ ap (λ (z : ℕ → Branch). laid (λ q. f (z q)) at 16 l)
    (ap (λ (z : List Float). first_cheapest_of z real imaginary) eu
    ∙ ap (λ (z : List Float). first_cheapest_of (upto (sum_with c past costs s input reliable) 64) z imaginary) er
    ∙ ap (λ (z : List Float). first_cheapest_of (upto (sum_with c past costs s input reliable) 64) (upto (real_with c past s) 64) z) ei
    ∙ ap (λ (z : Complex32). first_cheapest_of (upto (sum_with c past costs z input reliable) 64) (upto (real_with c past z) 64) (upto (imaginary_with c past z) 64)) es)

pub extend_is : {A : Type 0} (f : Branch → A) (d : A) (c past : Planes) (costs : List Float) (input : Complex32) (reliable : Bool) (l x out : List A) (k : ℕ)
    → past.real ≡ upto (λ i. (past_of c (i / 64) (i % 64)).real) 192 → past.imaginary ≡ upto (λ i. (past_of c (i / 64) (i % 64)).imaginary) 192
    → x ≡ tiers (λ k q. f (swept_of c past costs input reliable k q)) k l → k ≤ 4 → 4 ≤ k → length l ≡ 64
    → out ≡ upto (λ s. get_or x (16 * (s % 4) + s / 4) d) 64
    → out ≡ upto (λ s. f (arrival_of c costs input reliable s)) 64
extend_is {A} f d c past costs input reliable l x out k pr pi ex a b el h =
    h ∙ upto_same (λ s. get_or x (16 * (s % 4) + s / 4) d) (λ s. f (arrival_of c costs input reliable s)) 64 at
  where
    four : k ≡ 4
    four = omega arith

    at : (s : ℕ) → s < 64 → get_or x (16 * (s % 4) + s / 4) d ≡ f (arrival_of c costs input reliable s)
    at s i =
        ap (λ (z : List A). get_or z (16 * (s % 4) + s / 4) d) (ex ∙ ap (λ (z : ℕ). tiers (λ k q. f (swept_of c past costs input reliable k q)) z l) four)
        ∙ tiers_at (λ k q. f (swept_of c past costs input reliable k q)) l d (s % 4) (s / 4) el (omega arith) (omega arith)
        ∙ ap f (round_is c past costs input reliable (s % 4) pr pi (s / 4) (omega arith))

-- ---- parents are states
better_small : (b : Branch) (sums real imaginary : List Float) (p : ℕ) → b.prior < 64 → p < 64 → (cheaper_of b sums real imaginary p).prior < 64
unfolding cheaper_of better
better_small b sums real imaginary p h k = go (lt (get_or sums p nan) b.cost)
  where
    go : (t : Bool) → (cond t (record { cost = get_or sums p nan; prior = p; real = get_or real p nan; imaginary = get_or imaginary p nan }) b).prior < 64
    go true = k
    go false = h

first_small : (sums real imaginary : List Float) (q : ℕ) → q < 16 → (first_cheapest_of sums real imaginary q).prior < 64
unfolding first_cheapest_of
first_small sums real imaginary q h =
    better_small _ sums real imaginary (q + 48) (better_small _ sums real imaginary (q + 32) (better_small _ sums real imaginary (q + 16) (better_small no_branch sums real imaginary q (omega arith) (omega arith)) (omega arith)) (omega arith)) (omega arith)

pub priors_small : (c past : Planes) (costs : List Float) (input : Complex32) (reliable : Bool) (l x : List ℕ) (k : ℕ)
    → x ≡ tiers (λ k q. (swept_of c past costs input reliable k q).prior) k l → k ≤ 4 → 4 ≤ k → length l ≡ 64 → Parents x
unfolding swept_of
priors_small c past costs input reliable l x k h a b e = record {
  below = λ i j.
      let four : k ≡ 4 = omega arith in
      let u : i ≡ 16 * (i / 16) + i % 16 = omega arith in
      let f : ℕ → ℕ → ℕ = λ k q. (swept_of c past costs input reliable k q).prior in
      let g : get_or x i 0 ≡ f (i / 16) (i % 16) = ap (λ (z : List ℕ). get_or z i 0) (h ∙ ap (λ (z : ℕ). tiers f z l) four) ∙ ap (λ (z : ℕ). get_or (tiers f 4 l) z 0) u ∙ tiers_at f l 0 (i / 16) (i % 16) e (omega arith) (omega arith) in
      rw g (first_small _ _ _ (i % 16) (omega arith));
}

chosen_small : (c : Planes) (costs : List Float) (input : Complex32) (reliable : Bool) (k q : ℕ) → q < 16 → (chosen_of c costs input reliable k q).prior < 64
unfolding chosen_of
chosen_small c costs input reliable k q h = step _ (q + 48) (step _ (q + 32) (step _ (q + 16) (step no_branch q (omega arith) (omega arith)) (omega arith)) (omega arith)) (omega arith)
  where
    step : (b : Branch) (p : ℕ) → b.prior < 64 → p < 64 → (better b (branch_of c costs input reliable k p)).prior < 64
    step b p l m = unfold better in go (lt (branch_of c costs input reliable k p).cost b.cost)
      where
        go : (t : Bool) → (cond t (branch_of c costs input reliable k p) b).prior < 64
        go true = m
        go false = l

pub arrived_parents : (c : Planes) (costs : List Float) (input : Complex32) (reliable : Bool) → Parents (upto (λ s. (arrival_of c costs input reliable s).prior) 64)
arrived_parents c costs input reliable = record { below = λ s h. rw (upto_at (λ s. (arrival_of c costs input reliable s).prior) 64 s 0 h) (chosen_small c costs input reliable (s % 4) (s / 4) (omega arith)) }
