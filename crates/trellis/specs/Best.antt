-- The first cheapest state: sought in four quarters side by side it is the one that the Rust's total order finds from first to last,
-- where no cost is a NaN or -0. Assumes nothing.
use Rattle.std.specs.Prelude.{◌≡◌, refl, ℕ, zero, suc, ◌+◌, ◌*◌, ◌≤◌, ◌<◌, Bool, not, cond, ◌&&◌, ◌||◌, List, get_or, eqb, Float}
use Rattle.std.proofs.Common.{sym, ◌∙◌, mul-pos, arith, true≢false}
use Rattle.std.proofs.Math.Path.{ap}
use Rattle.std.proofs.Math.Bool.{true, false}
use Rattle.std.proofs.Math.Dec.{eqb-suc-zero}
use Rattle.std.specs.Float.{nan, inf, fin}
use Rattle.std.specs.Float.Ieee.{up, down, lt, eq, is_nan}
use Rattle.std.specs.Float.Ieee.Fits.{up_pos, down_pos}
use Rattle.laws.specs.Turns.{turns, turns_more, turns_step, turns_start}
use Rattle.numbers.specs.Numbers.{sign_of}
use Rattle.trellis.specs.declared.best.Least.{Least}
use Rattle.trellis.specs.Trellis.{precedes, best_turn, best_of}
use Rattle.trellis.specs.Layout.{nearer_of, minus_zero, Plain}
use Rattle.trellis.specs.Order.{no_less, lt_through}

-- ---- of values that are not -0 the total order is `<`
not_zero : (k : ℕ) → 0 < k → eqb k 0 ≡ false
not_zero zero h = absurd (omega arith)
not_zero (suc k) h = eqb-suc-zero k

no_tie : (a b : Bool) → b ≡ false → (a && (false || b)) && true ≡ false
no_tie true b e = rw e
no_tie false b e = refl

and_off : (a : Bool) → (a && false) ≡ false
and_off true = refl
and_off false = refl

no_equal : (x y : Float) → minus_zero x ≡ false → (eq x y && (sign_of x && not (sign_of y))) ≡ false
unfolding minus_zero eq sign_of
no_equal nan y h = refl
no_equal (inf s) nan h = refl
no_equal (inf true) (inf true) h = refl
no_equal (inf true) (inf false) h = refl
no_equal (inf false) (inf t) h = and_off (eq (inf false) (inf t))
no_equal (inf s) (fin t n d) h = refl
no_equal (fin s m e) nan h = refl
no_equal (fin s m e) (inf t) h = refl
no_equal (fin false m e) (fin t n d) h = and_off (eq (fin false m e) (fin t n d))
no_equal (fin true m e) (fin true n d) h = and_off (eq (fin true m e) (fin true n d))
no_equal (fin true zero e) (fin false n d) h = absurd (true≢false h)
no_equal (fin true (suc m) e) (fin false n d) h =
    no_tie (eqb (suc m * up e * down d) (n * up d * down e)) (eqb (suc m * up e * down d) 0) (not_zero (suc m * up e * down d) (mul-pos (mul-pos (omega arith) (up_pos e)) (down_pos d)))

or_off : (a b : Bool) → b ≡ false → (a || b) ≡ a
or_off true b e = refl
or_off false b e = e

pub precedes_is : (x y : Float) → minus_zero x ≡ false → precedes x y ≡ lt x y
unfolding precedes
precedes_is x y h = or_off (lt x y) (eq x y && (sign_of x && not (sign_of y))) (no_equal x y h)

-- ---- the earlier of equals: no matter how it is bracketed
abbrev nearest : Least → Least → Least
nearest x y = nearer_of x y.cost y.state

nearest_yes : (x y : Least) → lt y.cost x.cost ≡ true → nearest x y ≡ y
unfolding nearer_of
nearest_yes x y h = rw h

nearest_no : (x y : Least) → lt y.cost x.cost ≡ false → nearest x y ≡ x
unfolding nearer_of
nearest_no x y h = rw h

nearest_again : (x y z : Least) → is_nan x.cost ≡ false → is_nan y.cost ≡ false → is_nan z.cost ≡ false → nearest (nearest x y) z ≡ nearest x (nearest y z)
nearest_again x y z p q r = go (lt y.cost x.cost) (lt z.cost y.cost) refl refl
  where
    go : (a b : Bool) → lt y.cost x.cost ≡ a → lt z.cost y.cost ≡ b → nearest (nearest x y) z ≡ nearest x (nearest y z)
    go true true e f = ap (λ (w : Least). nearest w z) (nearest_yes x y e) ∙ nearest_yes y z f ∙ sym (ap (nearest x) (nearest_yes y z f) ∙ nearest_yes x z (lt_through x.cost y.cost z.cost p q r e f))
    go true false e f = ap (λ (w : Least). nearest w z) (nearest_yes x y e) ∙ nearest_no y z f ∙ sym (ap (nearest x) (nearest_no y z f) ∙ nearest_yes x y e)
    go false true e f = ap (λ (w : Least). nearest w z) (nearest_no x y e) ∙ sym (ap (nearest x) (nearest_yes y z f))
    go false false e f = ap (λ (w : Least). nearest w z) (nearest_no x y e) ∙ nearest_no x z (no_less x.cost y.cost z.cost p q r e f) ∙ sym (ap (nearest x) (nearest_no y z f) ∙ nearest_no x y e)

-- ---- the first cheapest of the states from .. from + n
abbrev pub only : List Float → ℕ → Least
only l s = record { state = s; cost = get_or l s nan }

abbrev scan_turn : List Float → ℕ → ℕ → Least → Least
scan_turn l from k b = nearest b (only l (from + (k + 1)))

unfoldable pub scan : List Float → ℕ → ℕ → Least
scan l from n = turns (scan_turn l from) n (only l from)

pub scan_start : (l : List Float) (from : ℕ) → only l from ≡ scan l from 0
unfolding scan
scan_start l from = turns_start (scan_turn l from) (only l from)

pub scan_step : (l : List Float) (from k i : ℕ) (b v : Least) → i ≡ from + (k + 1) → v ≡ nearer_of b (get_or l i nan) i → b ≡ scan l from k → v ≡ scan l from (k + 1)
unfolding scan
scan_step l from k i b v e g h = g ∙ ap (λ (z : ℕ). nearest b (only l z)) e ∙ turns_step (scan_turn l from) k (only l from) b h

scan_more : (l : List Float) (from n : ℕ) → scan l from (n + 1) ≡ nearest (scan l from n) (only l (from + (n + 1)))
unfolding scan
scan_more l from n = turns_more (scan_turn l from) n (only l from)

module _ (l : List Float) (numbers : (s : ℕ) → s < 64 → is_nan (get_or l s nan) ≡ false) where
  nearest_number : (x y : Least) → is_nan x.cost ≡ false → is_nan y.cost ≡ false → is_nan (nearest x y).cost ≡ false
  unfolding nearer_of
  nearest_number x y p q = go (lt y.cost x.cost)
    where
      go : (t : Bool) → is_nan (cond t y x).cost ≡ false
      go true = q
      go false = p

  scan_number : (from n : ℕ) → from + n < 64 → is_nan (scan l from n).cost ≡ false
  scan_number from zero h = ap (λ (z : Least). is_nan z.cost) (sym (scan_start l from)) ∙ numbers from (omega arith)
  scan_number from (suc n) h =
      let e : suc n ≡ n + 1 = omega arith in
      rw (e, scan_more l from n) (nearest_number (scan l from n) (only l (from + (n + 1))) (scan_number from n (omega arith)) (numbers (from + (n + 1)) (omega arith)))

  -- two scans, one after the other
  pub scan_join : (from n m : ℕ) → from + n + 1 + m < 64 → nearest (scan l from n) (scan l (from + n + 1) m) ≡ scan l from (n + 1 + m)
  scan_join from n zero h =
      let e : n + 1 + 0 ≡ n + 1 = omega arith in
      let f : from + n + 1 ≡ from + (n + 1) = omega arith in
      ap (nearest (scan l from n)) (sym (scan_start l (from + n + 1)) ∙ ap (only l) f) ∙ sym (scan_more l from n) ∙ ap (scan l from) (sym e)
  scan_join from n (suc m) h =
      let e : n + 1 + suc m ≡ n + 1 + m + 1 = omega arith in
      let g : suc m ≡ m + 1 = omega arith in
      let f : from + n + 1 + (m + 1) ≡ from + (n + 1 + m + 1) = omega arith in
      let i = from + n + 1 + (m + 1) in
      ap (λ (z : ℕ). nearest (scan l from n) (scan l (from + n + 1) z)) g
      ∙ ap (nearest (scan l from n)) (scan_more l (from + n + 1) m)
      ∙ sym (nearest_again (scan l from n) (scan l (from + n + 1) m) (only l i) (scan_number from n (omega arith)) (scan_number (from + n + 1) m (omega arith)) (numbers i (omega arith)))
      ∙ ap (λ (z : Least). nearest z (only l i)) (scan_join from n m (omega arith))
      ∙ ap (λ (z : ℕ). nearest (scan l from (n + 1 + m)) (only l z)) f
      ∙ sym (scan_more l from (n + 1 + m))
      ∙ ap (scan l from) (sym e)

-- ---- the quarters
best_step : (l : List Float) → Plain l → (n : ℕ) → n < 64 → turns (best_turn l) n (only l 0) ≡ scan l 0 n
unfolding scan turns
best_step l p zero h = refl
best_step l p (suc n) h =
    let e : n + 1 ≡ 0 + (n + 1) = omega arith in
    ap (best_turn l n) (best_step l p n (omega arith)) ∙ go (scan l 0 n) (n + 1) (0 + (n + 1)) e (omega arith)
  where
    go : (b : Least) (i j : ℕ) → i ≡ j → i < 64 → cond (precedes (get_or l i nan) b.cost) (only l i) b ≡ nearest b (only l j)
    go b i j e k = ap (λ (t : Bool). cond t (only l i) b) (precedes_is (get_or l i nan) b.cost (p.unsigned i k)) ∙ unfold nearer_of in ap (λ (z : ℕ). nearest b (only l z)) e

pub quarters : (l : List Float) (k : ℕ) (a b c d e f r : Least) → Plain l → k ≤ 15 → 15 ≤ k
    → a ≡ scan l 0 k → b ≡ scan l 16 k → c ≡ scan l 32 k → d ≡ scan l 48 k
    → e ≡ nearer_of a b.cost b.state → f ≡ nearer_of e c.cost c.state → r ≡ nearer_of f d.cost d.state
    → r ≡ best_of l
unfolding best_of
quarters l k a b c d e f r p le ge ea eb ec ed ee ef er =
    let k15 : k ≡ 15 = omega arith in
    let n = p.number in
    let at : (x : Least) (from : ℕ) → x ≡ scan l from k → x ≡ scan l from 15 = λ x from h. h ∙ ap (scan l from) k15 in
    er ∙ ap (λ (z : Least). nearest z d) (ef ∙ ap (λ (z : Least). nearest z c) (ee ∙ ap (λ (z : Least). nearest z b) (at a 0 ea) ∙ ap (nearest (scan l 0 15)) (at b 16 eb) ∙ scan_join l n 0 15 15 (omega arith))
    ∙ ap (nearest (scan l 0 31)) (at c 32 ec) ∙ scan_join l n 0 31 15 (omega arith))
    ∙ ap (nearest (scan l 0 47)) (at d 48 ed) ∙ scan_join l n 0 47 15 (omega arith)
    ∙ sym (best_step l p 63 (omega arith))
