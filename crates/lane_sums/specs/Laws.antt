-- What the proofs of the step's functions apply, over plain variables. Assumes nothing.
use Rattle.std.specs.Prelude.{◌≡◌, refl, ℕ, ◌+◌, ◌*◌, ◌<◌, set, Float}
use Rattle.std.proofs.Math.Path.{ap}
use Rattle.std.proofs.Common.{sym, ◌∙◌, arith}
use mathlib.Core.List.{List}
use Rattle.std.proofs.Math.ListN.{get_or}
use Rattle.std.specs.Float.Ieee.{nan, add}
use Rattle.std.specs.Float.{binary32}
use Rattle.laws.specs.Places.{upto, upto_at, upto_same, length_upto, fill, fill_step}
use Rattle.complex.specs.declared.Complex32.{Complex32}
use Rattle.complex.specs.Complex.{zero_pair, product_of, conjugate_product_of}
use Rattle.least_squares.specs.Lanes.{pair_at, in_lanes, lanes_of, inverse_in, four_in, row_in, real_in}
use Rattle.lane_sums.specs.LaneLaws.{lane_at, lane_is, lanes_same, in_lane}
use Rattle.least_squares.specs.LeastSquares.{memory, number_of, entry_of, over_of, four_sum, projected_of, crossed_of, denominator_of, weight_of, gain_of, gain_for}
use Rattle.lane_sums.specs.Layout.{projected_at, crossed_at, denominator_at, divided_at}

-- ---- what stands in a room's lane
pub four_at : (u : List Float) (l j at : ℕ) → j < 4 → at ≡ 16 * j + l → number_of (four_in u l) j ≡ pair_at 64 u at
four_at u l j at h e = lane_at 64 4 u l j h ∙ ap (pair_at 64 u) (sym e)

pub entry_at : (w : List Float) (l i j at : ℕ) → i < 8 → j < 8 → at ≡ 128 * i + 16 * j + l → entry_of (inverse_in w l) i j ≡ pair_at 1024 w at
entry_at w l i j at h k e =
    let b : 8 * i + j < 64 = omega arith in
    let q : 16 * (8 * i + j) + l ≡ at = omega arith in
    lane_at 1024 64 w l (8 * i + j) b ∙ ap (pair_at 1024 w) q

-- ---- the sums

-- of four terms that were made one by one
pub four_sum_is : (a b c d x y z w sum : Complex32) → sum ≡ four_sum a b c d → a ≡ x → b ≡ y → c ≡ z → d ≡ w → sum ≡ four_sum x y z w
four_sum_is a b c d x y z w sum e p q r s = e ∙ (λ i. four_sum (p i) (q i) (r i) (s i))

pub project_is : (w u : List Float) (i l : ℕ) (z : Complex32) → i < 8 → l < 16 → z ≡ projected_at w u (128 * i + l) l
    → z ≡ in_lanes (λ l. projected_of (inverse_in w l) (four_in u l)) (16 * i + l)
unfolding projected_of
project_is w u i l z h b e =
    e
    ∙ sym (in_lane (λ l. projected_of (inverse_in w l) (four_in u l)) i l b
    ∙ upto_at (λ i. four_sum
    (conjugate_product_of (entry_of (inverse_in w l) i 0) (number_of (four_in u l) 0)) (conjugate_product_of (entry_of (inverse_in w l) i 1) (number_of (four_in u l) 1))
    (conjugate_product_of (entry_of (inverse_in w l) i 2) (number_of (four_in u l) 2)) (conjugate_product_of (entry_of (inverse_in w l) i 3) (number_of (four_in u l) 3))) 8 i zero_pair h
    ∙ (λ j. four_sum
    (conjugate_product_of (entry_at w l i 0 (128 * i + l) h (omega arith) (omega arith) j) (four_at u l 0 l (omega arith) (omega arith) j))
    (conjugate_product_of (entry_at w l i 1 (128 * i + l + 16) h (omega arith) (omega arith) j) (four_at u l 1 (l + 16) (omega arith) (omega arith) j))
    (conjugate_product_of (entry_at w l i 2 (128 * i + l + 32) h (omega arith) (omega arith) j) (four_at u l 2 (l + 32) (omega arith) (omega arith) j))
    (conjugate_product_of (entry_at w l i 3 (128 * i + l + 48) h (omega arith) (omega arith) j) (four_at u l 3 (l + 48) (omega arith) (omega arith) j))))

pub cross_is : (w u : List Float) (i l : ℕ) (z : Complex32) → i < 8 → l < 16 → z ≡ crossed_at w u (16 * i + l) l
    → z ≡ in_lanes (λ l. crossed_of (inverse_in w l) (four_in u l)) (16 * i + l)
unfolding crossed_of
cross_is w u i l z h b e =
    e
    ∙ sym (in_lane (λ l. crossed_of (inverse_in w l) (four_in u l)) i l b
    ∙ upto_at (λ j. four_sum
    (product_of (number_of (four_in u l) 0) (entry_of (inverse_in w l) 0 j)) (product_of (number_of (four_in u l) 1) (entry_of (inverse_in w l) 1 j))
    (product_of (number_of (four_in u l) 2) (entry_of (inverse_in w l) 2 j)) (product_of (number_of (four_in u l) 3) (entry_of (inverse_in w l) 3 j))) 8 i zero_pair h
    ∙ (λ j. four_sum
    (product_of (four_at u l 0 l (omega arith) (omega arith) j) (entry_at w l 0 i (16 * i + l) (omega arith) h (omega arith) j))
    (product_of (four_at u l 1 (l + 16) (omega arith) (omega arith) j) (entry_at w l 1 i (16 * i + l + 128) (omega arith) h (omega arith) j))
    (product_of (four_at u l 2 (l + 32) (omega arith) (omega arith) j) (entry_at w l 2 i (16 * i + l + 256) (omega arith) h (omega arith) j))
    (product_of (four_at u l 3 (l + 48) (omega arith) (omega arith) j) (entry_at w l 3 i (16 * i + l + 384) (omega arith) h (omega arith) j))))

pub row_at : (v : List Float) (l i at : ℕ) → i < 8 → at ≡ 16 * i + l → number_of (row_in v l) i ≡ pair_at 128 v at
row_at v l i at h e = lane_at 128 8 v l i h ∙ ap (pair_at 128 v) (sym e)

denominator_is : (u v : List Float) (l : ℕ) → denominator_at u v l ≡ denominator_of (four_in u l) (row_in v l)
unfolding denominator_of
denominator_is u v l = sym (λ j. add binary32 (add binary32 (add binary32 (add binary32 memory
    (product_of (four_at u l 0 l (omega arith) (omega arith) j) (row_at v l 0 l (omega arith) (omega arith) j)).real)
    (product_of (four_at u l 1 (l + 16) (omega arith) (omega arith) j) (row_at v l 1 (l + 16) (omega arith) (omega arith) j)).real)
    (product_of (four_at u l 2 (l + 32) (omega arith) (omega arith) j) (row_at v l 2 (l + 32) (omega arith) (omega arith) j)).real)
    (product_of (four_at u l 3 (l + 48) (omega arith) (omega arith) j) (row_at v l 3 (l + 48) (omega arith) (omega arith) j)).real)

pub denominator_step : (u v : List Float) (l : ℕ) (before m : List Float) (x : Float) → x ≡ denominator_at u v l
    → m ≡ fill (λ l. denominator_of (four_in u l) (row_in v l)) l before → set m l x ≡ fill (λ l. denominator_of (four_in u l) (row_in v l)) (l + 1) before
denominator_step u v l before m x e h = fill_step (λ l. denominator_of (four_in u l) (row_in v l)) l before m (set m l x) (ap (set m l) (e ∙ denominator_is u v l)) h

pub divide_is : (v d : List Float) (i l : ℕ) (z : Complex32) → i < 8 → l < 16 → z ≡ divided_at v d (16 * i + l) l
    → z ≡ in_lanes (λ l. gain_of (row_in v l) (real_in d l)) (16 * i + l)
unfolding gain_of real_in
divide_is v d i l z h b e =
    e
    ∙ sym (in_lane (λ l. gain_of (row_in v l) (real_in d l)) i l b
    ∙ upto_at (λ i. over_of (number_of (row_in v l) i) (real_in d l)) 8 i zero_pair h
    ∙ (λ j. over_of (row_at v l i (16 * i + l) h (omega arith) j) (real_in d l)))

-- the sums put together
projected_lane : (w u v : List Float) (l : ℕ) → v ≡ lanes_of 128 (λ l. projected_of (inverse_in w l) (four_in u l)) → l < 16 → row_in v l ≡ projected_of (inverse_in w l) (four_in u l)
projected_lane w u v l e h = lane_is 128 8 (λ l. projected_of (inverse_in w l) (four_in u l)) v l e refl h (unfold projected_of in length_upto _ 8)

pub weigh_denominator : (w u v d : List Float) → v ≡ lanes_of 128 (λ l. projected_of (inverse_in w l) (four_in u l)) → d ≡ upto (λ l. denominator_of (four_in u l) (row_in v l)) 16
    → d ≡ upto (λ l. weight_of (inverse_in w l) (four_in u l)) 16
unfolding weight_of
weigh_denominator w u v d e h = h ∙ upto_same (λ l. denominator_of (four_in u l) (row_in v l)) (λ l. denominator_of (four_in u l) (projected_of (inverse_in w l) (four_in u l))) 16 (λ l b. ap (denominator_of (four_in u l)) (projected_lane w u v l e b))

pub weigh_gain : (w u v d gain : List Float) → v ≡ lanes_of 128 (λ l. projected_of (inverse_in w l) (four_in u l)) → d ≡ upto (λ l. denominator_of (four_in u l) (row_in v l)) 16
    → gain ≡ lanes_of 128 (λ l. gain_of (row_in v l) (real_in d l)) → gain ≡ lanes_of 128 (λ l. gain_for (inverse_in w l) (four_in u l))
weigh_gain w u v d gain e h g = g ∙ lanes_same 128 (λ l. gain_of (row_in v l) (real_in d l)) (λ l. gain_for (inverse_in w l) (four_in u l)) at
  where
    weight : (l : ℕ) → l < 16 → real_in d l ≡ weight_of (inverse_in w l) (four_in u l)
    weight l b = unfold real_in in ap (λ (z : List Float). get_or z l nan) (weigh_denominator w u v d e h) ∙ upto_at (λ l. weight_of (inverse_in w l) (four_in u l)) 16 l nan b

    at : (l : ℕ) → l < 16 → gain_of (row_in v l) (real_in d l) ≡ gain_for (inverse_in w l) (four_in u l)
    at l b = unfold gain_for in λ i. gain_of (projected_lane w u v l e b i) (weight l b i)
