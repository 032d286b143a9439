-- Lists that the trellis' loops write: runs of sixteen, symbol after symbol, and the order of the states made of them. Assumes nothing.
use Rattle.std.specs.Prelude.{◌≡◌, List, length, set}
use Rattle.std.proofs.Math.Path.{ap}
use Rattle.std.proofs.Common.{sym, ◌∙◌}
use Prim.Native.Nat.{ℕ, zero, suc, ◌+◌, ◌*◌, ◌/◌, ◌%◌, ◌≤◌, ◌<◌}
use native.Mathlib.Omega.{arith}
use Rattle.std.proofs.Math.ListN.{get_or, length-set}
use Rattle.std.proofs.Math.Seq.{get_or-set_same, get_or-set_other}
use Rattle.laws.specs.Turns.{turns, turns_start, turns_step}
use Rattle.laws.specs.Places.{upto, laid, laid_at, laid_off, length_laid, turns_at, skip2, skip3, skip4}
use Rattle.channels.specs.Stripes.{striped}

module _ {A : Type 0} where
  -- ---- runs of sixteen, one after another
  abbrev tier_turn : (ℕ → ℕ → A) → ℕ → List A → List A
  tier_turn f k l = laid (f k) (16 * k) 16 l

  unfoldable pub tiers : (ℕ → ℕ → A) → ℕ → List A → List A
  tiers f n l = turns (tier_turn f) n l

  pub tiers_start : (f : ℕ → ℕ → A) (l : List A) → l ≡ tiers f 0 l
  unfolding tiers
  tiers_start f l = turns_start _ _

  pub tiers_step : (f : ℕ → ℕ → A) (n : ℕ) (l m v : List A) → v ≡ laid (f n) (16 * n) 16 m → m ≡ tiers f n l → v ≡ tiers f (n + 1) l
  unfolding tiers
  tiers_step f n l m v e h = e ∙ turns_step (tier_turn f) n l m h

  pub tiers_at : (f : ℕ → ℕ → A) (l : List A) (d : A) (r q : ℕ) → length l ≡ 64 → r < 4 → q < 16 → get_or (tiers f 4 l) (16 * r + q) d ≡ f r q
  unfolding tiers
  tiers_at f l d r q e h k =
      turns_at (tier_turn f) r 4 l (16 * r + q) d (f r q) h
      (λ m o. laid_at (f r) (16 * r) 16 m q d k (rw (o, e) (omega arith)))
      (λ j m. length_laid (f j) (16 * j) 16 m)
      (λ j m a b. laid_off (f j) (16 * j) 16 m (16 * r + q) d (omega arith))

  -- ---- from 16 x symbol + q to symbol + 4 x q
  unfoldable pub fours_turn : List A → A → ℕ → List A → List A
  fours_turn x d q l = set (set (set (set l (4 * q) (get_or x q d)) (4 * q + 1) (get_or x (16 + q) d)) (4 * q + 2) (get_or x (32 + q) d)) (4 * q + 3) (get_or x (48 + q) d)

  fours_off : (x : List A) (d : A) (j k : ℕ) (m : List A) → (k ≡ j / 4 → ⊥) → get_or (fours_turn x d k m) j d ≡ get_or m j d
  unfolding fours_turn
  fours_off x d j k m h =
      skip4 m (4 * k) (4 * k + 1) (4 * k + 2) (4 * k + 3) (get_or x k d) (get_or x (16 + k) d) (get_or x (32 + k) d) (get_or x (48 + k) d) j d
      (λ e. h (omega arith)) (λ e. h (omega arith)) (λ e. h (omega arith)) (λ e. h (omega arith))

  fours_on : (x : List A) (d : A) (r q : ℕ) (m : List A) → r < 4 → 4 * q + 3 < length m → get_or (fours_turn x d q m) (4 * q + r) d ≡ get_or x (16 * r + q) d
  unfolding fours_turn
  fours_on x d zero q m h l =
      let e0 : 4 * q + 0 ≡ 4 * q = omega arith in
      let e1 : 16 * 0 + q ≡ q = omega arith in
      rw (e0, e1) (skip3 (set m (4 * q) (get_or x q d)) (4 * q + 1) (4 * q + 2) (4 * q + 3) (get_or x (16 + q) d) (get_or x (32 + q) d) (get_or x (48 + q) d) (4 * q) d (λ e. omega arith) (λ e. omega arith) (λ e. omega arith)
      ∙ get_or-set_same m (4 * q) (get_or x q d) d (omega arith))
  fours_on x d (suc zero) q m h l =
      skip2 (set (set m (4 * q) (get_or x q d)) (4 * q + 1) (get_or x (16 + q) d)) (4 * q + 2) (4 * q + 3) (get_or x (32 + q) d) (get_or x (48 + q) d) (4 * q + 1) d (λ e. omega arith) (λ e. omega arith)
      ∙ get_or-set_same (set m (4 * q) (get_or x q d)) (4 * q + 1) (get_or x (16 + q) d) d (rw length-set (omega arith))
  fours_on x d (suc (suc zero)) q m h l =
      get_or-set_other (set (set (set m (4 * q) (get_or x q d)) (4 * q + 1) (get_or x (16 + q) d)) (4 * q + 2) (get_or x (32 + q) d)) (4 * q + 3) (4 * q + 2) (get_or x (48 + q) d) d (λ e. omega arith)
      ∙ get_or-set_same (set (set m (4 * q) (get_or x q d)) (4 * q + 1) (get_or x (16 + q) d)) (4 * q + 2) (get_or x (32 + q) d) d (rw (length-set, length-set) (omega arith))
  fours_on x d (suc (suc (suc zero))) q m h l =
      get_or-set_same (set (set (set m (4 * q) (get_or x q d)) (4 * q + 1) (get_or x (16 + q) d)) (4 * q + 2) (get_or x (32 + q) d)) (4 * q + 3) (get_or x (48 + q) d) d (rw (length-set, length-set, length-set) (omega arith))
  fours_on x d (suc (suc (suc (suc r)))) q m h l = absurd (omega arith)

  pub fours_end : (x : List A) (d : A) (i : ℕ) (l m : List A) → m ≡ turns (fours_turn x d) i l → i ≤ 16 → 16 ≤ i → length l ≡ 64
      → m ≡ upto (λ s. get_or x (16 * (s % 4) + s / 4) d) 64
  unfolding fours_turn
  fours_end x d = striped d (fours_turn x d) 16 64 (λ s. s / 4) (λ s y. get_or x (16 * (s % 4) + s / 4) d)
      (λ k m. simp length-set)
      (λ s h. omega arith)
      (λ s m h e. let u : s ≡ 4 * (s / 4) + s % 4 = omega arith in ap (λ (z : ℕ). get_or (fours_turn x d (s / 4) m) z d) u ∙ fours_on x d (s % 4) (s / 4) m (omega arith) (rw e (omega arith)))
      (λ s k m h b e. fours_off x d s k m e)

  -- ---- a function of each element, in its place
  abbrev pub each_turn : A → (A → A) → ℕ → List A → List A
  each_turn d f k l = set l k (f (get_or l k d))

  pub each_end : (d : A) (f : A → A) (n i : ℕ) (l m : List A) → m ≡ turns (each_turn d f) i l → i ≤ n → n ≤ i → length l ≡ n → m ≡ upto (λ s. f (get_or l s d)) n
  each_end d f n = striped d (each_turn d f) n n (λ s. s) (λ s. f)
      (λ k m. length-set m k (f (get_or m k d)))
      (λ s h. h)
      (λ s m h e. get_or-set_same m s (f (get_or m s d)) d (rw e h))
      (λ s k m h b e. get_or-set_other m k s (f (get_or m k d)) d (λ q. e (sym q)))
