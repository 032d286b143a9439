-- Loops as functions: `turns f n a` is a after the turns 0, 1, .. n - 1 of f, in that order; `until stop f n a` ends from inside. Assumes nothing.
use Rattle.std.specs.Prelude.{◌≡◌, Bool, true, false, cond, get_or, take}
use Rattle.std.proofs.Math.Path.{refl, ap}
use Rattle.std.proofs.Common.{sym, ◌∙◌}
use Prim.Native.Nat.{ℕ, zero, suc, ◌+◌, ◌-◌, ◌≤◌, ◌<◌}
use native.Mathlib.Omega.{arith}
use mathlib.Core.List.{List, foldl, foldl-append}
use Rattle.std.proofs.Math.ListN.{length}
use Rattle.std.proofs.Math.Seq.{take-suc, take-length}
use Rattle.std.proofs.Math.Numerals.{add-one}

module _ {A : Type 0} where
  unfoldable pub turns : (ℕ → A → A) → ℕ → A → A
  turns f zero a = a
  turns f (suc n) a = f n (turns f n a)

  pub turns_none : (f : ℕ → A → A) (a : A) → turns f 0 a ≡ a
  unfolding turns
  turns_none f a = refl

  -- one turn more, at the code's `n + 1`
  pub turns_more : (f : ℕ → A → A) (n : ℕ) (a : A) → turns f (n + 1) a ≡ f n (turns f n a)
  unfolding turns
  turns_more f n a = rw add-one

  -- a loop's first fact, its step, and its end
  pub turns_start : (f : ℕ → A → A) (a : A) → a ≡ turns f 0 a
  turns_start f a = sym (turns_none f a)

  pub turns_step : (f : ℕ → A → A) (n : ℕ) (a b : A) → b ≡ turns f n a → f n b ≡ turns f (n + 1) a
  turns_step f n a b h = ap (f n) h ∙ sym (turns_more f n a)

  pub turns_end : (f : ℕ → A → A) (i n : ℕ) (a b : A) → b ≡ turns f i a → i ≤ n → n ≤ i → b ≡ turns f n a
  turns_end f i n a b h le ge = let e : i ≡ n = omega arith in h ∙ ap (λ (k : ℕ). turns f k a) e

  -- loops whose turns are the same
  pub turns_same : (f g : ℕ → A → A) (n : ℕ) (a : A) → ((k : ℕ) (b : A) → k < n → f k b ≡ g k b) → turns f n a ≡ turns g n a
  unfolding turns
  turns_same f g zero a h = refl
  turns_same f g (suc n) a h = ap (f n) (turns_same f g n a (λ k b l. h k b (omega arith))) ∙ h n (turns g n a) (omega arith)

  -- a loop that ends from inside: at most n turns of f, and none after `stop` holds
  unfoldable pub until : (A → Bool) → (A → A) → ℕ → A → A
  until stop f zero a = a
  until stop f (suc n) a = cond (stop a) a (until stop f n (f a))

  pub until_none : (stop : A → Bool) (f : A → A) (n : ℕ) (a : A) → n ≤ 0 → until stop f n a ≡ a
  unfolding until
  until_none stop f zero a h = refl
  until_none stop f (suc n) a h = absurd (omega arith)

  pub until_stop : (stop : A → Bool) (f : A → A) (n : ℕ) (a : A) → stop a ≡ true → until stop f n a ≡ a
  unfolding until
  until_stop stop f zero a h = refl
  until_stop stop f (suc n) a h = rw h

  pub until_turn : (stop : A → Bool) (f : A → A) (n : ℕ) (a : A) → 0 < n → stop a ≡ false → until stop f (n - 1) (f a) ≡ until stop f n a
  unfolding until
  until_turn stop f zero a l h = absurd (omega arith)
  until_turn stop f (suc n) a l h = let e : suc n - 1 ≡ n = omega arith in rw (h, e)

  -- turns from a place on: the first a turns, and then n more
  pub turns_plus : (f : ℕ → A → A) (a n : ℕ) (s : A) → turns (λ (k : ℕ). f (a + k)) n (turns f a s) ≡ turns f (a + n) s
  unfolding turns
  turns_plus f a zero s = let e : a + 0 ≡ a = omega arith in rw e
  turns_plus f a (suc n) s = let e : a + suc n ≡ suc (a + n) = omega arith in rw e (ap (f (a + n)) (turns_plus f a n s))

  -- the invariant of a loop that ends from inside, one turn on
  pub until_next : (stop : A → Bool) (f : A → A) (n : ℕ) (a b x : A) → b ≡ f a → 0 < n → stop a ≡ false → until stop f n a ≡ x → until stop f (n - 1) b ≡ x
  until_next stop f n a b x e l h i = ap (until stop f (n - 1)) e ∙ until_turn stop f n a l h ∙ i

-- a loop over the places of a list is a fold over the list (so, by `foldl-append`, a long block is its parts in turn)
module _ {A B : Type 0} (f : B → A → B) (d : A) where
  pub turns_take : (xs : List A) (n : ℕ) (b : B) → n ≤ length xs → turns (λ k a. f a (get_or xs k d)) n b ≡ foldl f b (take n xs)
  unfolding turns
  turns_take xs zero b h = refl
  turns_take xs (suc n) b h =
      let k : n < length xs = omega arith in
      rw (turns_take xs n b (omega arith), take-suc xs n d k, foldl-append)

  pub turns_foldl : (xs : List A) (b : B) → turns (λ k a. f a (get_or xs k d)) (length xs) b ≡ foldl f b xs
  turns_foldl xs b = let k : length xs ≤ length xs = omega arith in turns_take xs (length xs) b k ∙ rw take-length
