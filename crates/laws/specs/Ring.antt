-- Rings: a place that steps round one, and what a ring of `size` places holds as what was pushed, the last k values, oldest first.
-- One law for every element and every size. Assumes nothing.
use Rattle.std.specs.Prelude.{◌≡◌, refl, ◌⊎◌, List, [], ◌∷◌, ◌++◌, ℕ, suc, ◌+◌, ◌-◌, ◌%◌, ◌≤◌, ◌<◌, set}
use Rattle.std.proofs.Common.{ap, sym, ◌∙◌, inl, inr, ⊎_elim, append_assoc, append-nil, mod-lt, mod-eq_of_lt, eq-zero-or-pos, length-set}
use Rattle.std.proofs.Math.Nat.{mod-add-mod, mod-eq-sub-mod}
use native.Mathlib.Omega.{arith}
use Rattle.std.proofs.Math.ListN.{length, get_or}
use Rattle.std.proofs.Math.Seq.{get_or-set_same, get_or-set_other}
use Rattle.laws.specs.Places.{upto, upto_more, upto_same}

-- ---- a place that steps round
pub round_start : (from size : ℕ) → from < size → from ≡ (from + 0) % size
round_start from size h = let k : from + 0 < size = omega arith in let e : from ≡ from + 0 = omega arith in e ∙ sym (mod-eq_of_lt k)

pub round_step : (from i size : ℕ) → ((from + i) % size + 1) % size ≡ (from + (i + 1)) % size
round_step from i size = let e : from + i + 1 ≡ from + (i + 1) = omega arith in mod-add-mod (from + i) size 1 ∙ ap (λ (k : ℕ). k % size) e

-- ---- a place round a ring: two cases

pub lt_or_ge : (x n : ℕ) → (x < n) ⊎ (n ≤ x)
lt_or_ge x n = ⊎_elim (λ z. inr (omega arith)) (λ p. inl (omega arith)) (eq-zero-or-pos (n - x))

abbrev pub Round : ℕ → ℕ → Type 0
Round x n = ((x < n) × (x % n ≡ x)) ⊎ ((n ≤ x) × (x % n ≡ x - n))

pub round : (x n : ℕ) → x < n + n → Round x n
round x n h = ⊎_elim
    (λ l. inl (l, mod-eq_of_lt l))
    (λ g. let k : x - n < n = omega arith in inr (g, mod-eq-sub-mod g ∙ mod-eq_of_lt k))
    (lt_or_ge x n)

-- ---- the last values

module _ {A : Type 0} (d : A) (size : ℕ) where
  -- the place where the last k values start
  abbrev pub start : ℕ → ℕ → ℕ
  start head k = (head + size - k) % size

  -- the last k values, oldest first
  unfoldable pub latest : List A → ℕ → ℕ → List A
  latest ring head k = upto (λ i. get_or ring ((start head k + i) % size) d) k

  module _ (head k : ℕ) (in_ring : head < size) (room : k < size) where
    -- one push on, the last k + 1 values start where the last k did
    start_next : start ((head + 1) % size) (k + 1) ≡ start head k
    start_next =
        ⊎_elim
        (λ a. ⊎_elim (λ b. ⊎_elim (λ e. omega arith) (λ e. omega arith) (round ((head + 1) % size + size - (k + 1)) size (omega arith)))
        (λ b. ⊎_elim (λ e. omega arith) (λ e. omega arith) (round ((head + 1) % size + size - (k + 1)) size (omega arith)))
        (round (head + size - k) size (omega arith)))
        (λ a. ⊎_elim (λ b. ⊎_elim (λ e. omega arith) (λ e. omega arith) (round ((head + 1) % size + size - (k + 1)) size (omega arith)))
        (λ b. ⊎_elim (λ e. omega arith) (λ e. omega arith) (round ((head + 1) % size + size - (k + 1)) size (omega arith)))
        (round (head + size - k) size (omega arith)))
        (round (head + 1) size (omega arith))

    -- the k-th place from there is the head, and no earlier one is
    start_end : (start head k + k) % size ≡ head
    start_end =
        ⊎_elim
        (λ b. ⊎_elim (λ e. omega arith) (λ e. omega arith) (round (start head k + k) size (omega arith)))
        (λ b. ⊎_elim (λ e. omega arith) (λ e. omega arith) (round (start head k + k) size (omega arith)))
        (round (head + size - k) size (omega arith))

    start_other : (i : ℕ) → i < k → (start head k + i) % size ≡ head → ⊥
    start_other i l q =
        ⊎_elim
        (λ b. ⊎_elim (λ e. omega arith) (λ e. omega arith) (round (start head k + i) size (omega arith)))
        (λ b. ⊎_elim (λ e. omega arith) (λ e. omega arith) (round (start head k + i) size (omega arith)))
        (round (head + size - k) size (omega arith))

    -- THE LAW: after a push the last k + 1 values are the last k, and then what was pushed
    pub latest_push : (ring : List A) (z : A) → length ring ≡ size
        → latest (set ring head z) ((head + 1) % size) (k + 1) ≡ latest ring head k ++ (z ∷ [])
    unfolding latest
    latest_push ring z len =
        let h : head < length ring = omega arith in
        rw (
          start_next,
          upto_more,
          start_end,
          get_or-set_same ring head z d h,
          upto_same (λ i. get_or (set ring head z) ((start head k + i) % size) d) (λ i. get_or ring ((start head k + i) % size) d) k
              (λ i l. get_or-set_other ring head ((start head k + i) % size) z d (start_other i l)),
        )

  -- ---- many pushes

  -- a ring and its head
  pub record Spun : Type 0 where
    pub ring : List A
    pub head : ℕ

  pub record Sound (r : Spun) : Type 0 where
    pub full : length r.ring ≡ size
    pub inside : r.head < size

  abbrev pub spin : Spun → A → Spun
  spin r z = record { ring = set r.ring r.head z; head = (r.head + 1) % size }

  abbrev pub spins : Spun → List A → Spun
  spins r [] = r
  spins r (z ∷ zs) = spins (spin r z) zs

  pub spin_sound : (r : Spun) (z : A) → Sound r → Sound (spin r z)
  spin_sound r z s = record { full = simp length-set s.full; inside = mod-lt _ (omega (arith, s.inside)) }

  pub spins_sound : (r : Spun) (zs : List A) → Sound r → Sound (spins r zs)
  spins_sound r [] s = s
  spins_sound r (z ∷ zs) s = spins_sound (spin r z) zs (spin_sound r z s)

  pub spins_append : (r : Spun) (xs ys : List A) → spins r (xs ++ ys) ≡ spins (spins r xs) ys
  spins_append r [] ys = refl
  spins_append r (x ∷ xs) ys = spins_append (spin r x) xs ys

  abbrev pub last : Spun → ℕ → List A
  last r k = latest r.ring r.head k

  -- the last k, and then all that was pushed since
  pub last_spins : (r : Spun) (zs : List A) (k : ℕ) → Sound r → k + length zs ≤ size → last (spins r zs) (k + length zs) ≡ last r k ++ zs
  last_spins r [] k s h = let e : k + 0 ≡ k = omega arith in rw (e, append-nil)
  last_spins r (z ∷ zs) k s h =
      let e : k + suc (length zs) ≡ k + 1 + length zs = omega arith in
      let room : k < size = omega arith in
      let ih : last (spins (spin r z) zs) (k + 1 + length zs) ≡ last (spin r z) (k + 1) ++ zs
      = last_spins (spin r z) zs (k + 1) (spin_sound r z s) (omega arith) in
      rw (e, ih, latest_push r.head k s.inside room r.ring z s.full, append_assoc)

  -- THE THEOREM: whatever stood there before, the last n of the values pushed come out, oldest first
  pub last_pushed : (r : Spun) (xs ys : List A) → Sound r → length ys ≤ size → last (spins r (xs ++ ys)) (length ys) ≡ ys
  unfolding latest upto
  last_pushed r xs ys s h =
      let e : length ys ≡ 0 + length ys = omega arith in
      let t : last (spins (spins r xs) ys) (0 + length ys) ≡ last (spins r xs) 0 ++ ys = last_spins (spins r xs) ys 0 (spins_sound r xs s) (omega arith) in
      rw (spins_append r xs ys) (ap (λ (n : ℕ). last (spins (spins r xs) ys) n) e ∙ t)
