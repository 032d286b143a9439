-- What the code of sine and cosine makes on each way out. Assumes nothing.
use Rattle.std.specs.Prelude.{◌≡◌, ℕ, Bool, true, false, T, pos, ◌==◌, ◌≢◌, refl, Float}
use Rattle.std.proofs.Common.{sym, ap, ap₂, ◌∙◌, eqb→eq}
use Rattle.std.specs.Float.{nan, binary64}
use Rattle.std.specs.Float.Ieee.{of_int, neg, le}
use Rattle.std.specs.Float.Ieee.Bits.{is_true}
use Rattle.std.specs.Float.Ieee.Fits.{eq→eqb}
use Rattle.laws.specs.Branches.{cond_then, cond_no}
use Rattle.numbers.specs.Numbers.{abs_of, sign_of, clamp_of}
use Rattle.routines.specs.declared.circle.SineCosine.{SineCosine}
use Rattle.routines.specs.declared.circle.Remainder.{Remainder}
use Rattle.routines.specs.Circle.{one, minus_one, farthest, left_from, left_of, turns_of, reduced_of, near_sine, near_cosine, quartered, turned_sine, turned_cosine, turned_pair, in_reach, size_sine, size_cosine, size_pair, with_sign, sine_of, cosine_of, pair_of}
use Rattle.routines.proofs.CircleLaws.{size_none, size_cosine_none}

eqb_yes : (a b : ℕ) → a ≡ b → (a == b) ≡ true
eqb_yes a b h = is_true (a == b) (eq→eqb h)

eqb_no : (a b : ℕ) → (a ≢ b) → (a == b) ≡ false
eqb_no a b h = go (a == b) (eqb→eq a b)
  where
    go : (t : Bool) → (T t → a ≡ b) → t ≡ false
    go true k = absurd (h (k tt))
    go false k = refl

-- ---- by the quarter
module _ (q : ℕ) (a b c d z : Float) where
  pub quarter_0 : q ≡ 0 → z ≡ a → z ≡ quartered q a b c d
  quarter_0 h e = cond_then (q == 0) _ _ _ (eqb_yes q 0 h) e

  pub quarter_1 : (q ≢ 0) → q ≡ 1 → z ≡ b → z ≡ quartered q a b c d
  quarter_1 g h e = cond_no (q == 0) _ _ _ (eqb_no q 0 g) (cond_then (q == 1) _ _ _ (eqb_yes q 1 h) e)

  pub quarter_2 : (q ≢ 0) → (q ≢ 1) → q ≡ 2 → z ≡ c → z ≡ quartered q a b c d
  quarter_2 g h k e = cond_no (q == 0) _ _ _ (eqb_no q 0 g) (cond_no (q == 1) _ _ _ (eqb_no q 1 h) (cond_then (q == 2) _ _ _ (eqb_yes q 2 k) e))

  pub quarter_3 : (q ≢ 0) → (q ≢ 1) → (q ≢ 2) → z ≡ d → z ≡ quartered q a b c d
  quarter_3 g h k e = cond_no (q == 0) _ _ _ (eqb_no q 0 g) (cond_no (q == 1) _ _ _ (eqb_no q 1 h) (cond_no (q == 2) _ _ _ (eqb_no q 2 k) e))

pub paired : (a b c d : Float) → a ≡ c → b ≡ d → ◌≡◌ {A = SineCosine} (record { sine = a; cosine = b }) (record { sine = c; cosine = d })
paired a b c d e g = ap₂ (λ (u v : Float). record { sine = u; cosine = v }) e g

module _ (a : Remainder) (s c : Float) (es : s ≡ near_sine a.rest a.tail) (ec : c ≡ near_cosine a.rest a.tail) where
  pub pair_0 : a.quarter ≡ 0 → ◌≡◌ {A = SineCosine} (record { sine = s; cosine = c }) (turned_pair a)
  unfolding turned_pair turned_sine turned_cosine
  pair_0 h = paired _ _ _ _ (quarter_0 a.quarter _ _ _ _ s h es) (quarter_0 a.quarter _ _ _ _ c h ec)

  pub pair_1 : (a.quarter ≢ 0) → a.quarter ≡ 1 → ◌≡◌ {A = SineCosine} (record { sine = c; cosine = neg s }) (turned_pair a)
  unfolding turned_pair turned_sine turned_cosine
  pair_1 g h = paired _ _ _ _ (quarter_1 a.quarter _ _ _ _ c g h ec) (quarter_1 a.quarter _ _ _ _ (neg s) g h (ap neg es))

  pub pair_2 : (a.quarter ≢ 0) → (a.quarter ≢ 1) → a.quarter ≡ 2 → ◌≡◌ {A = SineCosine} (record { sine = neg s; cosine = neg c }) (turned_pair a)
  unfolding turned_pair turned_sine turned_cosine
  pair_2 g h k = paired _ _ _ _ (quarter_2 a.quarter _ _ _ _ (neg s) g h k (ap neg es)) (quarter_2 a.quarter _ _ _ _ (neg c) g h k (ap neg ec))

  pub pair_3 : (a.quarter ≢ 0) → (a.quarter ≢ 1) → (a.quarter ≢ 2) → ◌≡◌ {A = SineCosine} (record { sine = neg c; cosine = s }) (turned_pair a)
  unfolding turned_pair turned_sine turned_cosine
  pair_3 g h k = paired _ _ _ _ (quarter_3 a.quarter _ _ _ _ (neg c) g h k (ap neg ec)) (quarter_3 a.quarter _ _ _ _ s g h k es)

-- ---- within reach, and beyond it
pub reached : (a v w : Float) → le a farthest ≡ true → w ≡ clamp_of v minus_one one → w ≡ in_reach a v
reached a v w h e = cond_then (le a farthest) _ _ _ h e

pub sine_reached : (a t w : Float) (r : Remainder) → le a farthest ≡ true → r ≡ reduced_of a → t ≡ turned_sine r → w ≡ clamp_of t minus_one one → w ≡ size_sine a
unfolding size_sine
sine_reached a t w r h er et ew = reached a (turned_sine (reduced_of a)) w h (ew ∙ ap (λ (z : Float). clamp_of z minus_one one) (et ∙ ap turned_sine er))

pub cosine_reached : (a t w : Float) (r : Remainder) → le a farthest ≡ true → r ≡ reduced_of a → t ≡ turned_cosine r → w ≡ clamp_of t minus_one one → w ≡ size_cosine a
unfolding size_cosine
cosine_reached a t w r h er et ew = reached a (turned_cosine (reduced_of a)) w h (ew ∙ ap (λ (z : Float). clamp_of z minus_one one) (et ∙ ap turned_cosine er))

pub pair_reached : (a w z : Float) (r : Remainder) (p : SineCosine) → le a farthest ≡ true → r ≡ reduced_of a → p ≡ turned_pair r → w ≡ clamp_of p.sine minus_one one → z ≡ clamp_of p.cosine minus_one one → ◌≡◌ {A = SineCosine} (record { sine = w; cosine = z }) (size_pair a)
unfolding size_pair turned_pair
pair_reached a w z r p h er ep ew ez = paired w z (size_sine a) (size_cosine a) (sine_reached a p.sine w r h er (ap (λ (t : SineCosine). t.sine) ep) ew) (cosine_reached a p.cosine z r h er (ap (λ (t : SineCosine). t.cosine) ep) ez)

pub pair_none : (a : Float) → le a farthest ≡ false → ◌≡◌ {A = SineCosine} (record { sine = nan; cosine = nan }) (size_pair a)
unfolding size_pair
pair_none a h = paired nan nan (size_sine a) (size_cosine a) (sym (size_none a h)) (sym (size_cosine_none a h))

-- ---- the reduction, and the pair with its sign
pub reduced_made : (a k : Float) (n : ℕ) → n ≡ turns_of a → k ≡ of_int binary64 (pos n) → left_from a n k ≡ reduced_of a
unfolding reduced_of
reduced_made a k n en ek = ap (left_from a n) ek ∙ ap (left_of a) en

pub pair_made : (x a s : Float) (p : SineCosine) → a ≡ abs_of x → p ≡ size_pair a → s ≡ with_sign (sign_of x) p.sine → ◌≡◌ {A = SineCosine} (record { sine = s; cosine = p.cosine }) (pair_of x)
unfolding pair_of sine_of cosine_of size_pair
pair_made x a s p ea ep es =
    paired s p.cosine (sine_of x) (cosine_of x)
    (es ∙ ap (with_sign (sign_of x)) (ap (λ (t : SineCosine). t.sine) ep ∙ ap size_sine ea))
    (ap (λ (t : SineCosine). t.cosine) ep ∙ ap size_cosine ea)
