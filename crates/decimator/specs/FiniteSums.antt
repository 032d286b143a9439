-- Finite sums of integers: their laws. Assumes nothing.
use Rattle.std.specs.Prelude.{◌≡◌, ℕ, zero, suc, ◌+◌, ◌<◌, ◌≤◌, Bool, true, false, not, T, ◌⊎◌, ℤ, pos, ◌+ℤ◌, ◌*ℤ◌, ◌==◌, ◌≢◌, refl}
use Rattle.std.proofs.Common.{le_refl, le_trans, lt_irrefl, eq-or-lt_of_le, le_of_suc-le-suc, not-suc-le-zero, add-suc, add-zero, arith, sym, ap, ap₂, ◌∙◌, subst, inl, inr, eqb→eq}
use Rattle.std.proofs.Math.Nat.{le-suc}
use Rattle.std.proofs.Math.Dec.{eqb_refl, not_T}
use Rattle.std.proofs.Math.IntN.{one, +ℤ_assoc, +ℤ_comm, +ℤ_idl, +ℤ_idr, zero-*ℤ, suc_ℤ-*ℤ, *ℤ_comm, *ℤ-one}
use Rattle.decimator.specs.Demand.{sum_n, sum_z, one_if}

-- (a + b) + (c + d) = (a + c) + (b + d)
pub middle : (a b c d : ℤ) → (a +ℤ b) +ℤ (c +ℤ d) ≡ (a +ℤ c) +ℤ (b +ℤ d)
middle a b c d =
    +ℤ_assoc a b (c +ℤ d)
    ∙ ap (λ (z : ℤ). a +ℤ z) (sym (+ℤ_assoc b c d) ∙ ap (λ (z : ℤ). z +ℤ d) (+ℤ_comm b c) ∙ +ℤ_assoc c b d)
    ∙ sym (+ℤ_assoc a c (b +ℤ d))

pub sum_ext : (n : ℕ) (f g : ℕ → ℤ) → ((i : ℕ) → i < n → f i ≡ g i) → sum_z n f ≡ sum_z n g
unfolding sum_z
sum_ext zero f g h = refl
sum_ext (suc n) f g h = ap₂ ◌+ℤ◌ (sum_ext n f g (λ i l. h i (le_trans l (le-suc n)))) (h n (le_refl (suc n)))

pub sum_zero : (n : ℕ) (f : ℕ → ℤ) → ((i : ℕ) → i < n → f i ≡ pos 0) → sum_z n f ≡ pos 0
unfolding sum_z
sum_zero zero f h = refl
sum_zero (suc n) f h = ap₂ ◌+ℤ◌ (sum_zero n f (λ i l. h i (le_trans l (le-suc n)))) (h n (le_refl (suc n)))

pub sum_add : (n : ℕ) (f g : ℕ → ℤ) → sum_z n (λ i. f i +ℤ g i) ≡ sum_z n f +ℤ sum_z n g
unfolding sum_z
sum_add zero f g = refl
sum_add (suc n) f g = ap (λ (z : ℤ). z +ℤ (f n +ℤ g n)) (sum_add n f g) ∙ middle (sum_z n f) (sum_z n g) (f n) (g n)

pub sum_swap : (m n : ℕ) (f : ℕ → ℕ → ℤ) → sum_z m (λ i. sum_z n (λ j. f i j)) ≡ sum_z n (λ j. sum_z m (λ i. f i j))
unfolding sum_z
sum_swap zero n f = sym (sum_zero n (λ j. pos 0) (λ i l. refl))
sum_swap (suc m) n f = ap (λ (z : ℤ). z +ℤ sum_z n (λ j. f m j)) (sum_swap m n f) ∙ sym (sum_add n (λ j. sum_z m (λ i. f i j)) (λ j. f m j))

-- ---- a multiple by a sum of naturals
pos_suc : (a : ℕ) (z : ℤ) → pos (suc a) *ℤ z ≡ pos a *ℤ z +ℤ z
pos_suc a z = suc_ℤ-*ℤ (pos a) z

pub mul_add : (a b : ℕ) (z : ℤ) → pos (a + b) *ℤ z ≡ pos a *ℤ z +ℤ pos b *ℤ z
mul_add a zero z = ap (λ (n : ℕ). pos n *ℤ z) (add-zero a) ∙ sym (ap (λ (y : ℤ). pos a *ℤ z +ℤ y) (zero-*ℤ z) ∙ +ℤ_idr (pos a *ℤ z))
mul_add a (suc b) z =
    ap (λ (n : ℕ). pos n *ℤ z) (add-suc a b)
    ∙ pos_suc (a + b) z
    ∙ ap (λ (y : ℤ). y +ℤ z) (mul_add a b z)
    ∙ +ℤ_assoc (pos a *ℤ z) (pos b *ℤ z) z
    ∙ ap (λ (y : ℤ). pos a *ℤ z +ℤ y) (sym (pos_suc b z))

pub mul_sum : (n : ℕ) (f : ℕ → ℕ) (z : ℤ) → pos (sum_n n f) *ℤ z ≡ sum_z n (λ i. pos (f i) *ℤ z)
unfolding sum_n sum_z
mul_sum zero f z = zero-*ℤ z
mul_sum (suc n) f z = mul_add (sum_n n f) (f n) z ∙ ap (λ (y : ℤ). y +ℤ pos (f n) *ℤ z) (mul_sum n f z)

-- ---- the sum that picks one term
one_mul : (z : ℤ) → pos 1 *ℤ z ≡ z
unfolding one
one_mul z = *ℤ_comm (pos 1) z ∙ *ℤ-one z

hit : (c : ℕ) (z : ℤ) → pos (one_if (c == c)) *ℤ z ≡ z
hit c z = go (c == c) (eqb_refl c)
  where
    go : (b : Bool) → T b → pos (one_if b) *ℤ z ≡ z
    go true t = one_mul z
    go false t = absurd t

miss : (c a : ℕ) (z : ℤ) → (c ≢ a) → pos (one_if (c == a)) *ℤ z ≡ pos 0
miss c a z h = go (c == a) (not_T (c == a) (λ t. h (eqb→eq c a t)))
  where
    go : (b : Bool) → T (not b) → pos (one_if b) *ℤ z ≡ pos 0
    go true t = absurd t
    go false t = zero-*ℤ z

apart : (c a n : ℕ) → n ≤ c → a < n → c ≢ a
apart c a n h l e = omega arith

pub sum_pick : (n c : ℕ) (F : ℕ → ℤ) → c < n → sum_z n (λ a. pos (one_if (c == a)) *ℤ F a) ≡ F c
unfolding sum_z
sum_pick zero c F h = absurd (not-suc-le-zero h)
sum_pick (suc n) c F h = go (sum_pick n c F) (eq-or-lt_of_le (le_of_suc-le-suc h))
  where
    go : (c < n → sum_z n (λ a. pos (one_if (c == a)) *ℤ F a) ≡ F c) → (c ≡ n) ⊎ (c < n) → sum_z (suc n) (λ a. pos (one_if (c == a)) *ℤ F a) ≡ F c
    go r (inl e) =
        ap (λ (z : ℤ). z +ℤ pos (one_if (c == n)) *ℤ F n) (sum_zero n (λ a. pos (one_if (c == a)) *ℤ F a) (λ i l. miss c i (F i) (apart c i n (omega arith) l)))
        ∙ +ℤ_idl (pos (one_if (c == n)) *ℤ F n)
        ∙ subst (λ (m : ℕ). pos (one_if (c == m)) *ℤ F m ≡ F c) e (hit c (F c))
    go r (inr l) =
        ap₂ ◌+ℤ◌ (r l) (miss c n (F n) (λ e. lt_irrefl n (subst (λ (m : ℕ). m < n) e l)))
        ∙ +ℤ_idr (F c)
