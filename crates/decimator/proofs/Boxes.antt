-- A function of the history, its running total, and its sum over the latest d histories (`box`): the total now is the total d samples ago and the box.
-- Assumes nothing.
use Rattle.std.specs.Prelude.{◌≡◌, ℕ, zero, suc, ◌+◌, ◌-◌, ◌*◌, ◌<◌, List, [], ◌∷◌, get_or, drop, ℤ, pos, ◌+ℤ◌, ◌*ℤ◌, ◌==◌, slice_index_or, refl}
use Rattle.std.proofs.Common.{add-one, arith, sym, ap, ap₂, ◌∙◌, drop-drop, get_or-drop}
use Rattle.std.proofs.Math.IntN.{+ℤ_assoc, +ℤ_comm, +ℤ_idr}
use Rattle.std.proofs.Math.Seq.{drop-nil}
use Rattle.decimator.specs.Demand.{sum_n, sum_z, one_if, weight, weighted}
use Rattle.decimator.specs.FiniteSums.{sum_ext, sum_zero, sum_add, sum_swap, mul_sum, sum_pick}

-- the newest sample
unfoldable pub newest : List ℤ → ℤ
newest h = slice_index_or h 0 (pos 0)

unfoldable pub total : (List ℤ → ℤ) → List ℤ → ℤ
total f [] = pos 0
total f (x ∷ h) = total f h +ℤ f (x ∷ h)

unfoldable pub box : ℕ → (List ℤ → ℤ) → List ℤ → ℤ
unfolding sum_z
box d f h = sum_z d (λ j. f (drop j h))

-- g is the running total of f
pub record Total (g f : List ℤ → ℤ) : Type 0 where
  pub none_yet : g [] ≡ pos 0
  pub nothing : f [] ≡ pos 0
  pub one_more : (x : ℤ) (h : List ℤ) → g (x ∷ h) ≡ g h +ℤ f (x ∷ h)

pub total_is : (f : List ℤ → ℤ) → f [] ≡ pos 0 → Total (total f) f
unfolding total
total_is f e = record { none_yet = refl; nothing = e; one_more = λ x h. refl }

one_back : {g f : List ℤ → ℤ} → Total g f → (h : List ℤ) → g h ≡ g (drop 1 h) +ℤ f h
one_back t [] = t.none_yet ∙ sym (ap₂ ◌+ℤ◌ t.none_yet t.nothing)
one_back t (x ∷ h) = t.one_more x h

drop_more : (d : ℕ) (h : List ℤ) → drop 1 (drop d h) ≡ drop (suc d) h
drop_more d h = drop-drop 1 d h ∙ ap (λ (n : ℕ). drop n h) (add-one d)

pub total_box : {g f : List ℤ → ℤ} → Total g f → (d : ℕ) (h : List ℤ) → g h ≡ g (drop d h) +ℤ box d f h
unfolding box
total_box {g} {f} t zero h = sym (+ℤ_idr (g h))
total_box {g} {f} t (suc d) h =
    total_box t d h
    ∙ ap (λ (z : ℤ). z +ℤ box d f h) (one_back t (drop d h) ∙ ap (λ (l : List ℤ). g l +ℤ f (drop d h)) (drop_more d h))
    ∙ +ℤ_assoc (g (drop (suc d) h)) (f (drop d h)) (box d f h)
    ∙ ap (λ (z : ℤ). g (drop (suc d) h) +ℤ z) (+ℤ_comm (f (drop d h)) (box d f h))

at_start : (f : List ℤ → ℤ) → f [] ≡ pos 0 → (d : ℕ) → box d f [] ≡ pos 0
unfolding box
at_start f e d = sum_zero d (λ j. f (drop j [])) (λ j l. ap f (drop-nil j) ∙ e)

pub box_total : {g f : List ℤ → ℤ} → Total g f → (d : ℕ) → Total (box d g) (box d f)
unfolding box
box_total {g} {f} t d = record {
  none_yet = at_start g t.none_yet d;
  nothing = at_start f t.nothing d;
  one_more = λ x h.
      sum_ext d (λ j. g (drop j (x ∷ h))) (λ j. g (drop j h) +ℤ f (drop j (x ∷ h)))
      (λ j l. one_back t (drop j (x ∷ h)) ∙ ap (λ (l : List ℤ). g l +ℤ f (drop j (x ∷ h))) (drop_more j (x ∷ h)))
      ∙ sum_add d (λ j. g (drop j h)) (λ j. f (drop j (x ∷ h)));
}

-- ---- three boxes of the newest sample are the weighted sum

at_age : (h : List ℤ) (i j k : ℕ) → newest (drop k (drop j (drop i h))) ≡ slice_index_or h (i + j + k) (pos 0)
unfolding newest
at_age h i j k =
    get_or-drop k (drop j (drop i h)) 0 (pos 0)
    ∙ get_or-drop j (drop i h) (k + 0) (pos 0)
    ∙ get_or-drop i h (j + (k + 0)) (pos 0)
    ∙ ap (λ (n : ℕ). get_or h n (pos 0)) (sum3 i j k)
  where
    sum3 : (i j k : ℕ) → i + (j + (k + 0)) ≡ i + j + k
    sum3 i j k = omega arith

unfoldable pub triple : ℕ → (ℕ → ℤ) → ℤ
triple d F = sum_z d (λ i. sum_z d (λ j. sum_z d (λ k. F (i + j + k))))

pub boxes : (d : ℕ) (h : List ℤ) → box d (box d (box d newest)) h ≡ triple d (λ a. get_or h a (pos 0))
unfolding box triple
boxes d h =
    sum_ext d (λ i. box d (box d newest) (drop i h)) (λ i. sum_z d (λ j. sum_z d (λ k. get_or h (i + j + k) (pos 0)))) (λ i l.
    sum_ext d (λ j. box d newest (drop j (drop i h))) (λ j. sum_z d (λ k. get_or h (i + j + k) (pos 0))) (λ j m.
    sum_ext d (λ k. newest (drop k (drop j (drop i h)))) (λ k. get_or h (i + j + k) (pos 0)) (λ k n. at_age h i j k)))

within : (d i j k : ℕ) → i < d → j < d → k < d → i + j + k < 3 * d - 2
within d i j k a b c = omega arith

weigh : (d : ℕ) (F : ℕ → ℤ) → sum_z (3 * d - 2) (λ a. pos (weight d a) *ℤ F a) ≡ triple d F
unfolding weight triple
weigh d F =
    let N = 3 * d - 2 in
    sum_ext N (λ a. pos (weight d a) *ℤ F a) (λ a. sum_z d (λ i. sum_z d (λ j. sum_z d (λ k. pos (one_if (i + j + k == a)) *ℤ F a)))) (λ a l.
    mul_sum d (λ i. sum_n d (λ j. sum_n d (λ k. one_if (i + j + k == a)))) (F a)
    ∙ sum_ext d (λ i. pos (sum_n d (λ j. sum_n d (λ k. one_if (i + j + k == a)))) *ℤ F a) (λ i. sum_z d (λ j. sum_z d (λ k. pos (one_if (i + j + k == a)) *ℤ F a))) (λ i li.
    mul_sum d (λ j. sum_n d (λ k. one_if (i + j + k == a))) (F a)
    ∙ sum_ext d (λ j. pos (sum_n d (λ k. one_if (i + j + k == a))) *ℤ F a) (λ j. sum_z d (λ k. pos (one_if (i + j + k == a)) *ℤ F a)) (λ j lj.
    mul_sum d (λ k. one_if (i + j + k == a)) (F a))))
    ∙ sum_swap N d (λ a i. sum_z d (λ j. sum_z d (λ k. pos (one_if (i + j + k == a)) *ℤ F a)))
    ∙ sum_ext d (λ i. sum_z N (λ a. sum_z d (λ j. sum_z d (λ k. pos (one_if (i + j + k == a)) *ℤ F a)))) (λ i. sum_z d (λ j. sum_z d (λ k. F (i + j + k)))) (λ i li.
    sum_swap N d (λ a j. sum_z d (λ k. pos (one_if (i + j + k == a)) *ℤ F a))
    ∙ sum_ext d (λ j. sum_z N (λ a. sum_z d (λ k. pos (one_if (i + j + k == a)) *ℤ F a))) (λ j. sum_z d (λ k. F (i + j + k))) (λ j lj.
    sum_swap N d (λ a k. pos (one_if (i + j + k == a)) *ℤ F a)
    ∙ sum_ext d (λ k. sum_z N (λ a. pos (one_if (i + j + k == a)) *ℤ F a)) (λ k. F (i + j + k)) (λ k lk.
    sum_pick N (i + j + k) F (within d i j k li lj lk))))

pub weighted_is : (d : ℕ) (F : ℕ → ℤ) → weighted d F ≡ triple d F
unfolding weighted
weighted_is d F = weigh d F

pub weighted_same : (d : ℕ) (F G : ℕ → ℤ) → ((a : ℕ) → a < 3 * d - 2 → F a ≡ G a) → weighted d F ≡ weighted d G
unfolding weighted
weighted_same d F G h = sum_ext (3 * d - 2) (λ a. pos (weight d a) *ℤ F a) (λ a. pos (weight d a) *ℤ G a) (λ a l. ap (λ (z : ℤ). pos (weight d a) *ℤ z) (h a l))
