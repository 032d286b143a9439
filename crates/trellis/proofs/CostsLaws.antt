-- The detector's costs: each stays within 0 to 48, whatever the metrics within 0 to 16 (Costs.antt). Assumes nothing.
use Rattle.std.specs.Prelude.{◌≡◌, ℕ, zero, suc, ◌+◌, ◌*◌, ◌/◌, ◌%◌, ◌<◌, Bool, true, false, not, cond, Float}
use Rattle.std.proofs.Math.Path.{refl, subst}
use Rattle.std.proofs.Common.{sym, ap}
use native.Mathlib.Omega.{arith}
use Rattle.std.proofs.Math.Dec.{T}
use Rattle.std.specs.Float.{nan, inf, fin}
use Rattle.std.specs.Float.Ieee.{binary32, add, sub, le, lt}
use Rattle.std.specs.Float.Ieee.Scale.{finite}
use Rattle.laws.specs.FloatOrder.{le_self, le_trans', lt→le, not_lt→le}
use Rattle.laws.specs.FloatSums.{add_mono, sub_mono, sub_same, In, in_finite, add_in, in_wider}
use Rattle.trellis.specs.Metric.{c0, c16}
use Rattle.trellis.specs.Costs.{c32, c48, c64, cand, cheaper, kept, next, Good}

pub fresh_good : Good (λ s. c0)
unfolding le
fresh_good = record { ranged = λ s l. record { lower = tt; upper = tt }; b0 = 0; b0_lt = omega arith; at = tt; b1 = 0; near = λ q l. tt; b2 = 0; far = λ u l. tt }

-- ---- the cheapest of four
cheaper_first : (y : Float) → T (finite y) → cheaper (inf false) y ≡ y
unfolding lt
cheaper_first nan p = absurd p
cheaper_first (inf s) p = absurd p
cheaper_first (fin s m e) p = refl

record Least (x y z : Float) : Type 0 where
  left : T (le z x)
  right : T (le z y)
  within : In c0 c64 z

fin0 : (x : Float) → In c0 c64 x → T (finite x)
fin0 x i = in_finite c0 c64 x tt tt i

cheaper_is : (x y : Float) → In c0 c64 x → In c0 c64 y → Least x y (cheaper x y)
cheaper_is x y i j = go (lt y x) (lt→le y x) (not_lt→le y x (fin0 y j) (fin0 x i))
  where
    go : (b : Bool) → (T b → T (le y x)) → (T (not b) → T (le x y)) → Least x y (cond b y x)
    go true h k = record { left = h tt; right = le_self y (fin0 y j); within = j }
    go false h k = record { left = le_self x (fin0 x i); right = k tt; within = i }

trans : (x y z : Float) → In c0 c64 x → In c0 c64 y → In c0 c64 z → T (le x y) → T (le y z) → T (le x z)
trans x y z i j k = le_trans' x y z (fin0 x i) (fin0 y j) (fin0 z k)

pub record Cheapest (c : ℕ → Float) (m : ℕ → ℕ → Float) (s : ℕ) : Type 0 where
  pub of0 : T (le (kept c m s) (cand c m s 0))
  pub of1 : T (le (kept c m s) (cand c m s 1))
  pub of2 : T (le (kept c m s) (cand c m s 2))
  pub of3 : T (le (kept c m s) (cand c m s 3))
  pub ok : In c0 c64 (kept c m s)

kept_is : (c : ℕ → Float) (m : ℕ → ℕ → Float) (s : ℕ) → ((r : ℕ) → r < 4 → In c0 c64 (cand c m s r)) → Cheapest c m s
unfolding kept
kept_is c m s h =
    let x0 = cand c m s 0 in
    let x1 = cand c m s 1 in
    let x2 = cand c m s 2 in
    let x3 = cand c m s 3 in
    let i0 : In c0 c64 x0 = h 0 (omega arith) in
    let i1 : In c0 c64 x1 = h 1 (omega arith) in
    let i2 : In c0 c64 x2 = h 2 (omega arith) in
    let i3 : In c0 c64 x3 = h 3 (omega arith) in
    let a = cheaper_is x0 x1 i0 i1 in
    let b = cheaper_is (cheaper x0 x1) x2 a.within i2 in
    let d = cheaper_is (cheaper (cheaper x0 x1) x2) x3 b.within i3 in
    let k = cheaper (cheaper (cheaper x0 x1) x2) x3 in
    let to_a : T (le k (cheaper x0 x1)) = trans k (cheaper (cheaper x0 x1) x2) (cheaper x0 x1) d.within b.within a.within d.left b.left in
    let e : cheaper (cheaper (cheaper (cheaper (inf false) x0) x1) x2) x3 ≡ k = ap (λ (z : Float). cheaper (cheaper (cheaper z x1) x2) x3) (cheaper_first x0 (fin0 x0 i0)) in
    record {
      of0 = subst (λ (z : Float). T (le z x0)) (sym e) (trans k (cheaper x0 x1) x0 d.within a.within i0 to_a a.left);
      of1 = subst (λ (z : Float). T (le z x1)) (sym e) (trans k (cheaper x0 x1) x1 d.within a.within i1 to_a a.right);
      of2 = subst (λ (z : Float). T (le z x2)) (sym e) (trans k (cheaper (cheaper x0 x1) x2) x2 d.within b.within i2 d.left b.right);
      of3 = subst (λ (z : Float). T (le z x3)) (sym e) d.right;
      ok = subst (λ (z : Float). In c0 c64 z) (sym e) d.within;
    }

kept_le : (c : ℕ → Float) (m : ℕ → ℕ → Float) (s : ℕ) → Cheapest c m s → (r : ℕ) → r < 4 → T (le (kept c m s) (cand c m s r))
kept_le c m s k zero l = k.of0
kept_le c m s k (suc zero) l = k.of1
kept_le c m s k (suc (suc zero)) l = k.of2
kept_le c m s k (suc (suc (suc zero))) l = k.of3
kept_le c m s k (suc (suc (suc (suc r)))) l = absurd (none r l)
  where
    none : (r : ℕ) → suc (suc (suc (suc r))) < 4 → ⊥
    none r l = omega arith

-- ---- one step
prior_lt : (s r : ℕ) → s < 64 → r < 4 → s / 4 + 16 * r < 64
prior_lt s r h k = omega arith

symbol_lt : (s : ℕ) → s % 4 < 4
symbol_lt s = omega arith

module _ (c : ℕ → Float) (m : ℕ → ℕ → Float) (g : Good c) (metric : (p q : ℕ) → p < 64 → q < 4 → In c0 c16 (m p q)) where
  cand_in : (s r : ℕ) → s < 64 → r < 4 → In c0 c64 (cand c m s r)
  unfolding cand le add
  cand_in s r l k =
      in_wider (add binary32 c0 c0) (add binary32 c48 c16) c0 c64 tt tt tt tt
      (add_in binary32 c0 c48 c0 c16 tt tt (g.ranged (s / 4 + 16 * r) (prior_lt s r l k)) (metric (s / 4 + 16 * r) (s % 4) (prior_lt s r l k) (symbol_lt s)))

  pub keeps : (s : ℕ) → s < 64 → Cheapest c m s
  keeps s l = kept_is c m s (λ r k. cand_in s r l k)

  -- a state is no dearer than one of its priors and a metric
  from : (s r : ℕ) (hi to : Float) → s < 64 → r < 4 → T (finite hi) → T (finite to) → T (le (add binary32 hi c16) to) → T (finite (add binary32 hi c16)) → T (le (c (s / 4 + 16 * r)) hi) → T (le (kept c m s) to)
  unfolding cand
  from s r hi to l k H O t S h =
      let p = s / 4 + 16 * r in
      let i = g.ranged p (prior_lt s r l k) in
      let j = metric p (s % 4) (prior_lt s r l k) (symbol_lt s) in
      let x = cand c m s r in
      let X = fin0 x (cand_in s r l k) in
      let K = fin0 (kept c m s) (keeps s l).ok in
      let a : T (le x (add binary32 hi c16)) = add_mono binary32 (c p) hi (m p (s % 4)) c16 (in_finite c0 c48 (c p) tt tt i) H (in_finite c0 c16 (m p (s % 4)) tt tt j) tt h j.upper in
      le_trans' (kept c m s) (add binary32 hi c16) to K S O (le_trans' (kept c m s) x (add binary32 hi c16) K X S (kept_le c m s (keeps s l) r k) a) t

  in_48 : (s : ℕ) → s < 64 → T (le (kept c m s) c48)
  unfolding le add
  in_48 s l = from s (g.b2 % 4) c32 c48 l (symbol_lt g.b2) tt tt tt tt (g.far (s / 4) (omega arith))

  in_16 : (q : ℕ) → q < 4 → T (le (kept c m (q + 4 * (g.b0 % 16))) c16)
  unfolding le add
  in_16 q l =
      let b = g.b0 in
      let h = g.b0_lt in
      let s = q + 4 * (b % 16) in
      let e : s / 4 + 16 * (b / 16) ≡ b = omega arith in
      from s (b / 16) c0 c16 (omega arith) (omega arith) tt tt tt tt (subst (λ (k : ℕ). T (le (c k) c0)) (sym e) g.at)

  in_32 : (u : ℕ) → u < 16 → T (le (kept c m (u + 16 * (g.b1 % 4))) c32)
  unfolding le add
  in_32 u l =
      let b = g.b1 in
      let s = u + 16 * (b % 4) in
      let r = b % 16 / 4 in
      let e : u / 4 + 4 * (b % 16) ≡ s / 4 + 16 * r = omega arith in
      from s r c16 c32 (omega arith) (omega arith) tt tt tt tt (subst (λ (k : ℕ). T (le (c k) c16)) e (g.near (u / 4) (omega arith)))

  module _ (best : ℕ) (in_range : best < 64) (least : (s : ℕ) → s < 64 → T (le (kept c m best) (kept c m s))) where
    -- what is taken off leaves no more than was there
    off : (s : ℕ) (hi : Float) → s < 64 → T (finite hi) → sub binary32 hi c0 ≡ hi → T (le (kept c m s) hi) → T (le (next c m best s) hi)
    unfolding next
    off s hi l H e h =
        let k = kept c m s in
        let b = kept c m best in
        let i = (keeps s l).ok in
        let j = (keeps best in_range).ok in
        subst (λ (z : Float). T (le (sub binary32 k b) z)) e (sub_mono binary32 k hi b c0 (fin0 k i) H (fin0 b j) tt h j.lower)

    no_less : (s : ℕ) → s < 64 → T (le c0 (next c m best s))
    unfolding next
    no_less s l =
        let k = kept c m s in
        let b = kept c m best in
        let K = fin0 k (keeps s l).ok in
        let B = fin0 b (keeps best in_range).ok in
        subst (λ (z : Float). T (le z (sub binary32 k b))) (sub_same binary32 b B) (sub_mono binary32 b k b b B K B B (least s l) (le_self b B))

    at_best : T (le (next c m best best) c0)
    unfolding next le
    at_best = subst (λ (z : Float). T (le z c0)) (sym (sub_same binary32 (kept c m best) (fin0 (kept c m best) (keeps best in_range).ok))) tt

    pub good_next : Good (next c m best)
    unfolding sub
    good_next = record {
      ranged = λ s l. record { lower = no_less s l; upper = off s c48 l tt refl (in_48 s l) };
      b0 = best;
      b0_lt = in_range;
      at = at_best;
      b1 = g.b0;
      near = λ q l. off (q + 4 * (g.b0 % 16)) c16 (omega arith) tt refl (in_16 q l);
      b2 = g.b1;
      far = λ u l. off (u + 16 * (g.b1 % 4)) c32 (omega arith) tt refl (in_32 u l);
    }

-- the invariant speaks of the costs of the 64 states only
pub good_same : (c e : ℕ → Float) → ((s : ℕ) → s < 64 → c s ≡ e s) → Good c → Good e
good_same c e h g = record {
  ranged = λ s l. subst (λ (z : Float). In c0 c48 z) (h s l) (g.ranged s l);
  b0 = g.b0;
  b0_lt = g.b0_lt;
  at = subst (λ (z : Float). T (le z c0)) (h g.b0 g.b0_lt) g.at;
  b1 = g.b1;
  near = λ q l. subst (λ (z : Float). T (le z c16)) (h (q + 4 * (g.b1 % 16)) (omega arith)) (g.near q l);
  b2 = g.b2;
  far = λ u l. subst (λ (z : Float). T (le z c32)) (h (u + 16 * (g.b2 % 4)) (omega arith)) (g.far u l);
}
