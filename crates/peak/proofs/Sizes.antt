-- Sizes: floats that are NaN or have no sign, as envelopes do. Their order is that of their places, so a largest one does not turn on the order of comparing. Assumes nothing.
use Rattle.std.specs.Prelude.{◌≡◌, Bool, not, cond, List, T, ltb, get_or, Float}
use Rattle.std.proofs.Math.Path.{refl, ap, subst}
use Rattle.std.proofs.Common.{sym, ◌∙◌, le_antisymm, ltb→lt, nltb→le}
use Prim.Native.Nat.{ℕ, zero, suc, ◌≤◌, ◌<◌, max}
use native.Mathlib.Omega.{arith}
use Rattle.std.proofs.Math.Bool.{true, false}
use Rattle.std.specs.Float.{nan, inf, fin}
use Rattle.std.specs.Float.Ieee.{binary32, of_bits, lt, is_nan}
use Rattle.std.specs.Float.Ieee.Bits.{of_bits-fits}
use Rattle.laws.specs.Turns.{turns}
use Rattle.laws.specs.FloatOrder.{lt_nan}
use Rattle.numbers.specs.Numbers.{max_of, sign_of}
use Rattle.numbers.specs.Nearest.{Value, units_of}
use Rattle.numbers.proofs.NearestLaws.{place_order}
use Rattle.peak.specs.Peak.{top_of, peak_turn}

-- a NaN, or an f32 with no sign
pub data Unsigned : Float → Type 0 where
  none : Unsigned nan
  some : {x : Float} → Value binary32 x → Unsigned x

abbrev pub place : Float → ℕ
place x = units_of binary32 x

-- ---- the larger of two
pub top_unsigned : (p e : Float) → Value binary32 p → Unsigned e → Value binary32 (top_of p e)
unfolding top_of
top_unsigned p nan P none = subst (λ (b : Bool). Value binary32 (cond b nan p)) (sym (lt_nan p)) P
top_unsigned p e P (some E) = go (lt p e)
  where
    go : (b : Bool) → Value binary32 (cond b e p)
    go true = E
    go false = P

pub top_place : (p e : Float) → Value binary32 p → Unsigned e → place (top_of p e) ≡ max (place p) (place e)
unfolding top_of
top_place p nan P none = ap (λ (b : Bool). place (cond b nan p)) (lt_nan p) ∙ nothing (place p)
  where
    nothing : (a : ℕ) → a ≡ max a 0
    nothing a = omega arith
top_place p e P (some E) = ap (λ (b : Bool). place (cond b e p)) (place_order binary32 p e P E) ∙ go (ltb (place p) (place e)) (ltb→lt (place p) (place e)) (nltb→le (place p) (place e))
  where
    right : (a b : ℕ) → a < b → b ≡ max a b
    right a b h = omega arith

    left : (a b : ℕ) → b ≤ a → a ≡ max a b
    left a b h = omega arith

    go : (b : Bool) → (T b → place p < place e) → (T (not b) → place e ≤ place p) → place (cond b e p) ≡ max (place p) (place e)
    go true h k = right (place p) (place e) (h tt)
    go false h k = left (place p) (place e) (k tt)

-- Rust's max, where the first is no NaN and neither has a sign
max_top : (p e : Float) → Value binary32 p → Unsigned e → max_of p e ≡ top_of p e
unfolding max_of top_of
max_top p nan P none = first p P
  where
    first : (p : Float) → Value binary32 p → max_of p nan ≡ top_of p nan
    first nan P = absurd P.plain
    first (inf s) P = unfold max_of top_of is_nan lt in refl
    first (fin s m e) P = unfold max_of top_of is_nan lt in refl
max_top p e P (some E) = rw (number p P, number e E) (go (lt e p) (lt p e) (sign_of p) (order p e P E) (unsigned p P))
  where
    number : (x : Float) → Value binary32 x → is_nan x ≡ false
    number nan X = absurd X.plain
    number (inf s) X = unfold is_nan in refl
    number (fin s m e) X = unfold is_nan in refl

    unsigned : (x : Float) → Value binary32 x → sign_of x ≡ false
    unsigned nan X = absurd X.plain
    unsigned (inf true) X = absurd X.plain
    unsigned (inf false) X = unfold sign_of in refl
    unsigned (fin true m e) X = absurd X.plain
    unsigned (fin false m e) X = unfold sign_of in refl

    order : (p e : Float) → Value binary32 p → Value binary32 e → T (lt e p) → T (lt p e) → ⊥
    order p e P E h k =
        let a = ltb→lt (place e) (place p) (subst T (place_order binary32 e p E P) h) in
        let b = ltb→lt (place p) (place e) (subst T (place_order binary32 p e P E) k) in
        omega arith

    go : (a b s : Bool) → (T a → T b → ⊥) → s ≡ false → cond a p (cond b e (cond s e p)) ≡ cond b e p
    go true true s h g = absurd (h tt tt)
    go true false s h g = refl
    go false true s h g = refl
    go false false s h g = ap (λ (t : Bool). cond t e p) g

-- ---- the largest of many, in whole numbers
pub record Largest (n : ℕ → ℕ) (k m : ℕ) : Type 0 where
  pub upper : (i : ℕ) → i < k → n i ≤ m
  pub least : (b : ℕ) → ((i : ℕ) → i < k → n i ≤ b) → m ≤ b

pub largest_one : (n : ℕ → ℕ) (k a b : ℕ) → Largest n k a → Largest n k b → a ≡ b
largest_one n k a b A B = le_antisymm (A.least b B.upper) (B.least a A.upper)

-- ---- the peak in the order of the places
module _ (es : List Float) (S : (k : ℕ) → k < 64 → Unsigned (get_or es k nan)) where
  abbrev at : ℕ → Float
  at k = get_or es k nan

  pub nought : Value binary32 (of_bits binary32 0)
  unfolding of_bits
  nought = record { held = of_bits-fits binary32 0; plain = tt }

  pub in_order : (k : ℕ) → k ≤ 64 → Value binary32 (turns (peak_turn es) k (of_bits binary32 0)) × Largest (λ i. place (at i)) k (place (turns (peak_turn es) k (of_bits binary32 0)))
  unfolding turns
  in_order zero h = (nought, record { upper = λ i l. absurd (omega arith); least = λ b g. unfold of_bits in omega arith })
  in_order (suc k) h =
      let r = in_order k (omega arith) in
      let p = turns (peak_turn es) k (of_bits binary32 0) in
      let s : Unsigned (at k) = S k (omega arith) in
      let e : max_of p (at k) ≡ top_of p (at k) = max_top p (at k) r.0 s in
      let m : place (max_of p (at k)) ≡ max (place p) (place (at k)) = ap place e ∙ top_place p (at k) r.0 s in (
        subst (Value binary32) (sym e) (top_unsigned p (at k) r.0 s),
        record {
          upper = λ i l. subst (λ (z : ℕ). place (at i) ≤ z) (sym m) (both i l r.1.upper);
          least = λ b g. subst (λ (z : ℕ). z ≤ b) (sym m) (under (place p) (place (at k)) b (r.1.least b (λ i l. g i (omega arith))) (g k (omega arith)));
        },
      )
    where
      under : (a b c : ℕ) → a ≤ c → b ≤ c → max a b ≤ c
      under a b c x y = omega arith

      both : (i : ℕ) → i < suc k → ((j : ℕ) → j < k → place (at j) ≤ place (turns (peak_turn es) k (of_bits binary32 0))) → place (at i) ≤ max (place (turns (peak_turn es) k (of_bits binary32 0))) (place (at k))
      both i l u = go (ltb i k) (ltb→lt i k) (nltb→le i k)
        where
          wide : (a p b : ℕ) → a ≤ p → a ≤ max p b
          wide a p b h = omega arith

          own : (p b : ℕ) → b ≤ max p b
          own p b = omega arith

          go : (t : Bool) → (T t → i < k) → (T (not t) → k ≤ i) → place (at i) ≤ max (place (turns (peak_turn es) k (of_bits binary32 0))) (place (at k))
          go true x y = wide (place (at i)) (place (turns (peak_turn es) k (of_bits binary32 0))) (place (at k)) (u i (x tt))
          go false x y =
              let g = y tt in
              let e : i ≡ k = omega arith in
              subst (λ (j : ℕ). place (at j) ≤ max (place (turns (peak_turn es) k (of_bits binary32 0))) (place (at k))) (sym e) (own (place (turns (peak_turn es) k (of_bits binary32 0))) (place (at k)))
