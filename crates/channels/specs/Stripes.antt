-- Loops of which each turn writes several places of a list, and each place is written by one turn only: what they leave behind. Assumes nothing.
use Rattle.std.specs.Prelude.{◌≡◌, List, length, get_or, set}
use Rattle.std.proofs.Math.Path.{refl, ap, sym}
use Rattle.std.proofs.Common.{◌∙◌, arith, get_or-set_same}
use Rattle.std.proofs.Math.Logic.{⊎_elim}
use Prim.Native.Nat.{ℕ, zero, suc, ◌+◌, ◌*◌, ◌/◌, ◌%◌, ◌≤◌, ◌<◌}
use Rattle.std.proofs.Math.ListN.{length-set}
use Rattle.std.proofs.Math.Seq.{get_or-set_other, set-get_or}
use Rattle.laws.specs.Turns.{turns, turns_more, turns_none, turns_end}
use Rattle.laws.specs.Places.{upto, upto_is, turns_length, turns_keep, le_or}

-- ---- the place j is written by the turn `owner j` alone, which puts f j of what stands there
module _ {A : Type 0} (d : A) (w : ℕ → List A → List A) (n size : ℕ) (owner : ℕ → ℕ) (f : ℕ → A → A)
    (keeps : (k : ℕ) (m : List A) → length (w k m) ≡ length m)
    (owned : (j : ℕ) → j < size → owner j < n)
    (writes : (j : ℕ) (m : List A) → j < size → length m ≡ size → get_or (w (owner j) m) j d ≡ f j (get_or m j d))
    (leaves : (j k : ℕ) (m : List A) → j < size → k < n → (k ≡ owner j → ⊥) → get_or (w k m) j d ≡ get_or m j d) where
  stripe_at : (l : List A) → length l ≡ size → (j : ℕ) → j < size → get_or (turns w n l) j d ≡ f j (get_or l j d)
  stripe_at l e j h =
      let o = owned j h in
      turns_keep w (owner j + 1) n l j d (omega arith) (λ k m a b. leaves j k m h b (λ q. omega arith))
      ∙ ap (λ (z : List A). get_or z j d) (turns_more w (owner j) l)
      ∙ writes j (turns w (owner j) l) h (turns_length w (owner j) l keeps ∙ e)
      ∙ ap (f j) (turns_keep w 0 (owner j) l j d (omega arith) (λ k m a b. leaves j k m h (omega arith) (λ q. omega arith)) ∙ ap (λ (z : List A). get_or z j d) (turns_none w l))

  pub striped : (i : ℕ) (l m : List A) → m ≡ turns w i l → i ≤ n → n ≤ i → length l ≡ size → m ≡ upto (λ j. f j (get_or l j d)) size
  striped i l m h a b e =
      turns_end w i n l m h a b ∙ upto_is (λ j. f j (get_or l j d)) size d (turns w n l) (turns_length w n l keeps ∙ e) (stripe_at l e)

-- ---- 64 columns of r places each: a turn writes its column, the places k, k + 64, k + 128, ..
abbrev pub place_of : ℕ → ℕ → ℕ
place_of zero k = k
place_of (suc t) k = k + 64 * suc t

place_is : (t k : ℕ) → place_of t k ≡ k + 64 * t
place_is zero k = omega arith
place_is (suc t) k = refl

module _ {A : Type 0} (d : A) (f : ℕ → ℕ → A → A) where
  unfoldable pub column : ℕ → ℕ → List A → List A
  column zero k m = m
  column (suc t) k m = set (column t k m) (place_of t k) (f t k (get_or (column t k m) (place_of t k) d))

  column_length : (r k : ℕ) (m : List A) → length (column r k m) ≡ length m
  unfolding column
  column_length zero k m = refl
  column_length (suc r) k m = simp length-set (column_length r k m)

  pub columns_length : (r i : ℕ) (l m : List A) → m ≡ turns (column r) i l → length m ≡ length l
  columns_length r i l m h = ap length h ∙ turns_length (column r) i l (column_length r)

  column_off : (r k j : ℕ) (m : List A) → k < 64 → (k ≡ j % 64 → ⊥) → get_or (column r k m) j d ≡ get_or m j d
  unfolding column
  column_off zero k j m h e = refl
  column_off (suc r) k j m h e = get_or-set_other (column r k m) (place_of r k) j _ d (λ q. e (omega (arith, place_is r k))) ∙ column_off r k j m h e

  column_above : (r k t : ℕ) (m : List A) → r ≤ t → get_or (column r k m) (place_of t k) d ≡ get_or m (place_of t k) d
  unfolding column
  column_above zero k t m h = refl
  column_above (suc r) k t m h =
      get_or-set_other (column r k m) (place_of r k) (place_of t k) _ d (λ q. omega (arith, place_is r k, place_is t k)) ∙ column_above r k t m (omega arith)

  column_on : (r k t : ℕ) (m : List A) → t < r → k < 64 → 64 * r ≤ length m → get_or (column r k m) (place_of t k) d ≡ f t k (get_or m (place_of t k) d)
  unfolding column
  column_on zero k t m h b l = absurd (omega arith)
  column_on (suc r) k t m h b l =
      ⊎_elim
      (λ s. get_or-set_other (column r k m) (place_of r k) (place_of t k) _ d (λ q. omega (arith, place_is r k, place_is t k)) ∙ column_on r k t m s b (omega arith))
      (λ e. rw e (get_or-set_same (column r k m) (place_of r k) _ d (rw (column_length r k m) (omega (arith, place_is r k))) ∙ ap (f r k) (column_above r k r m (omega arith))))
      (le_or t r (omega arith))

  pub column_same : (r k : ℕ) (m : List A) → ((t : ℕ) (x : A) → f t k x ≡ x) → m ≡ column r k m
  unfolding column
  column_same zero k m h = refl
  column_same (suc r) k m h = column_same r k m h ∙ sym (ap (set (column r k m) (place_of r k)) (h r (get_or (column r k m) (place_of r k) d)) ∙ set-get_or (column r k m) (place_of r k) d)

  pub columns : (r i : ℕ) (l m : List A) → m ≡ turns (column r) i l → i ≤ 64 → 64 ≤ i → length l ≡ 64 * r → m ≡ upto (λ j. f (j / 64) (j % 64) (get_or l j d)) (64 * r)
  columns r = striped d (column r) 64 (64 * r) (λ j. j % 64) (λ j. f (j / 64) (j % 64))
      (column_length r)
      (λ j h. omega arith)
      (λ j m h e. let p : place_of (j / 64) (j % 64) ≡ j = omega (arith, place_is (j / 64) (j % 64)) in
      ap (λ (z : ℕ). get_or (column r (j % 64) m) z d) (sym p) ∙ column_on r (j % 64) (j / 64) m (omega arith) (omega arith) (omega arith) ∙ ap (λ (z : ℕ). f (j / 64) (j % 64) (get_or m z d)) p)
      (λ j k m h b e. column_off r k j m b e)
