-- A root in binary64, narrowed to binary32, does not pass a value v of binary32: where v * v is at most s, v is at most the result, and where it is at least s, at least it.
-- So the exact root of s lies strictly between the result's two neighbours. This is the last half of the f32 hypotenuse. Assumes nothing.
use Rattle.std.specs.Prelude.{◌≡◌, ℕ, zero, suc, ◌*◌, ◌<◌, ◌≤◌, true, false, T, refl, Float}
use Rattle.std.proofs.Common.{sym, subst, lt_irrefl, ltb→lt}
use Rattle.std.specs.Float.{nan, inf, fin, Format, binary32, binary64}
use Rattle.std.specs.Float.Ieee.{up, down, le, fits}
use Rattle.std.specs.Float.Ieee.Fits.{fits_widens}
use Rattle.std.specs.Float.Ieee.Positive.{num, den, den_pos, positive}
use Rattle.numbers.specs.Numbers.{convert}
use Rattle.numbers.specs.Root.{round_root, sqrt_of}
use Rattle.laws.specs.FloatOrder.{nonneg, le→cross}
use Rattle.laws.specs.FloatRounding.{signed, units_signed}
use Rattle.laws.specs.FloatValues.{id_nonneg, round_least, round_most}
use Rattle.numbers.specs.RootOrder.{root_above, root_below}

pub root_up : (f : Format) (a b : ℕ) → T (signed false (round_root f a b))
unfolding round_root
root_up f a b = units_signed false f _ _

-- ---- narrowing keeps the order with a value of the narrower format
below_all : (v : Float) → T (nonneg v) → T (le v (inf false))
unfolding le
below_all nan p = absurd p
below_all (inf s) p = absurd p
below_all (fin true m e) p = absurd p
below_all (fin false m e) p = tt

pub keeps_under : (f : Format) (v q : Float) → T (nonneg v) → T (fits f v) → T (signed false q) → T (le v q) → T (le v (convert f q))
unfolding convert
keeps_under f v nan p F u h = absurd u
keeps_under f v (inf true) p F u h = absurd u
keeps_under f v (inf false) p F u h = below_all v p
keeps_under f v (fin true m e) p F u h = absurd u
keeps_under f v (fin false m e) p F u h = round_least f (m * up e) (down e) v (den_pos (fin false m e)) p F (le→cross v (fin false m e) p tt h)

no_inf : (v : Float) → T (nonneg v) → T (le (inf false) v) → ⊥
unfolding le
no_inf nan p h = p
no_inf (inf s) p h = p
no_inf (fin true m e) p h = p
no_inf (fin false m e) p h = h

pub keeps_over : (f : Format) (v q : Float) → T (nonneg v) → T (fits f v) → T (signed false q) → T (le q v) → T (le (convert f q) v)
unfolding convert
keeps_over f v nan p F u h = absurd u
keeps_over f v (inf true) p F u h = absurd u
keeps_over f v (inf false) p F u h = absurd (no_inf v p h)
keeps_over f v (fin true m e) p F u h = absurd u
keeps_over f v (fin false m e) p F u h = round_most f (m * up e) (down e) v (den_pos (fin false m e)) p F (le→cross (fin false m e) v tt p h)

-- ---- s is above zero
pub sqrt_is : (f : Format) (s : Float) → T (positive s) → sqrt_of f s ≡ round_root f (num s) (den s)
unfolding sqrt_of
sqrt_is f nan p = absurd p
sqrt_is f (inf t) p = absurd p
sqrt_is f (fin true m e) p = absurd p
sqrt_is f (fin false zero e) p = absurd (no (ltb→lt 0 0 p))
  where
    no : 0 < 0 → ⊥
    no h = lt_irrefl 0 h
sqrt_is f (fin false (suc m) e) p = refl

module _ (v s : Float) (N : T (nonneg v)) (F : T (fits binary32 v)) (S : T (positive s)) where
  pub root_under : num v * num v * den s ≤ num s * (den v * den v) → T (le v (convert binary32 (sqrt_of binary64 s)))
  root_under h =
      subst (λ (z : Float). T (le v (convert binary32 z))) (sym (sqrt_is binary64 s S))
      (keeps_under binary32 v (round_root binary64 (num s) (den s)) N F (root_up binary64 (num s) (den s))
      (subst (λ (z : Float). T (le z (round_root binary64 (num s) (den s)))) (id_nonneg binary64 v N (fits_widens v F)) (root_above binary64 (num v) (den v) (num s) (den s) (den_pos v) (den_pos s) h)))

  pub root_over : num s * (den v * den v) ≤ num v * num v * den s → T (le (convert binary32 (sqrt_of binary64 s)) v)
  root_over h =
      subst (λ (z : Float). T (le (convert binary32 z) v)) (sym (sqrt_is binary64 s S))
      (keeps_over binary32 v (round_root binary64 (num s) (den s)) N F (root_up binary64 (num s) (den s))
      (subst (λ (z : Float). T (le (round_root binary64 (num s) (den s)) z)) (id_nonneg binary64 v N (fits_widens v F)) (root_below binary64 (num v) (den v) (num s) (den s) (den_pos v) (den_pos s) h)))
