-- Lists by their places: `upto f n` is f 0, f 1, .. f (n - 1), and what loops that store leave behind. One law for every element. Assumes nothing.
use Rattle.std.specs.Prelude.{◌≡◌, ◌⊎◌, ◌≢◌, Bool, true, ◌&&◌, get_or}
use Rattle.std.proofs.Math.Path.{refl}
use Rattle.std.proofs.Common.{ap, sym, ◌∙◌, inl, inr, eq-zero-or-pos, mul-le-mul_right, add-mul, one-mul, length-append, ext_get_or}
use Rattle.std.proofs.Math.Logic.{⊎_elim}
use mathlib.Core.List.{List, [], ◌∷◌, ◌++◌, append_assoc}
use Prim.Native.Nat.{ℕ, zero, suc, ◌+◌, ◌-◌, ◌*◌, ◌≤◌, ◌<◌}
use Rattle.std.proofs.Math.Numerals.{add-one}
use native.Mathlib.Omega.{arith}
use Rattle.std.proofs.Math.ListN.{length, set, drop, length-set, get_or-append}
use Rattle.std.proofs.Math.Seq.{get_or-set_same, get_or-set_other, drop-cons, set_at, append_snoc}
use Rattle.std.proofs.lemmas.List.{get_or_at}
use Rattle.laws.specs.Turns.{turns, turns_more, turns_start, turns_step, turns_end}
use Rattle.laws.specs.Branches.{and_true}

pub le_or : (i n : ℕ) → i ≤ n → (i < n) ⊎ (i ≡ n)
le_or i n h = ⊎_elim (λ z. inr (omega arith)) (λ p. inl (omega arith)) (eq-zero-or-pos (n - i))

module _ {A : Type 0} where
  -- f 0, f 1, .. f (n - 1)
  unfoldable pub upto : (ℕ → A) → ℕ → List A
  upto f zero = []
  upto f (suc n) = upto f n ++ (f n ∷ [])

  pub upto_more : (f : ℕ → A) (n : ℕ) → upto f (n + 1) ≡ upto f n ++ (f n ∷ [])
  unfolding upto
  upto_more f n = rw add-one

  pub length_upto : (f : ℕ → A) (n : ℕ) → length (upto f n) ≡ n
  unfolding upto
  length_upto f zero = refl
  length_upto f (suc n) = simp (length-append, length_upto f n) (omega arith)

  pub upto_same : (f g : ℕ → A) (n : ℕ) → ((i : ℕ) → i < n → f i ≡ g i) → upto f n ≡ upto g n
  unfolding upto
  upto_same f g zero h = refl
  upto_same f g (suc n) h = rw (upto_same f g n (λ i l. h i (omega arith)), h n (omega arith))

  pub upto_at : (f : ℕ → A) (n i : ℕ) (d : A) → i < n → get_or (upto f n) i d ≡ f i
  unfolding upto
  upto_at f zero i d l = absurd (omega arith)
  upto_at f (suc n) i d l =
      ⊎_elim
      (λ m. let k : i < length (upto f n) = rw (length_upto f n) m in get_or-append (upto f n) (f n ∷ []) d i k ∙ upto_at f n i d m)
      (λ e. rw e (get_or_at (upto f n) (f n) [] d n (length_upto f n)))
      (le_or i n (omega arith))

  -- a list of n places that has f's values is f's list
  pub upto_is : (f : ℕ → A) (n : ℕ) (d : A) (l : List A) → length l ≡ n → ((i : ℕ) → i < n → get_or l i d ≡ f i) → l ≡ upto f n
  upto_is f n d l e h = ext_get_or d l (upto f n) (e ∙ sym (length_upto f n)) (λ i k. let m : i < n = rw (← e) k in h i m ∙ sym (upto_at f n i d m))

  pub turns_length : (f : ℕ → List A → List A) (n : ℕ) (l : List A) → ((k : ℕ) (m : List A) → length (f k m) ≡ length m) → length (turns f n l) ≡ length l
  unfolding turns
  turns_length f zero l h = refl
  turns_length f (suc n) l h = h n (turns f n l) ∙ turns_length f n l h

  -- a place that the turns from a on leave alone
  pub turns_keep : (f : ℕ → List A → List A) (a n : ℕ) (l : List A) (j : ℕ) (d : A) → a ≤ n
      → ((k : ℕ) (m : List A) → a ≤ k → k < n → get_or (f k m) j d ≡ get_or m j d) → get_or (turns f n l) j d ≡ get_or (turns f a l) j d
  unfolding turns
  turns_keep f a zero l j d h g = let e : a ≡ 0 = omega arith in rw e
  turns_keep f a (suc n) l j d h g =
      ⊎_elim
      (λ m. let o : a ≤ n = omega arith in g n (turns f n l) o (omega arith) ∙ turns_keep f a n l j d o (λ k p q r. g k p q (omega arith)))
      (λ e. rw e)
      (le_or a (suc n) h)

  -- a place that turn a writes, and no later one
  pub turns_at : (f : ℕ → List A → List A) (a n : ℕ) (l : List A) (j : ℕ) (d v : A) → a < n
      → ((m : List A) → length m ≡ length l → get_or (f a m) j d ≡ v)
      → ((k : ℕ) (m : List A) → length (f k m) ≡ length m)
      → ((k : ℕ) (m : List A) → a + 1 ≤ k → k < n → get_or (f k m) j d ≡ get_or m j d) → get_or (turns f n l) j d ≡ v
  turns_at f a n l j d v h w e g =
      turns_keep f (a + 1) n l j d (omega arith) g ∙ ap (λ (z : List A). get_or z j d) (turns_more f a l) ∙ w (turns f a l) (turns_length f a l e)

  -- a loop that stores f k at from + k
  unfoldable pub laid : (ℕ → A) → ℕ → ℕ → List A → List A
  laid f from n l = turns (λ k m. set m (from + k) (f k)) n l

  pub laid_start : (f : ℕ → A) (from : ℕ) (l : List A) → l ≡ laid f from 0 l
  unfolding laid
  laid_start f from l = turns_start _ _

  pub laid_step : (f : ℕ → A) (from n : ℕ) (l m : List A) (v : A) → v ≡ f n → m ≡ laid f from n l → set m (from + n) v ≡ laid f from (n + 1) l
  unfolding laid
  laid_step f from n l m v e h = rw e (turns_step (λ k m. set m (from + k) (f k)) n l m h)

  pub laid_end : (f : ℕ → A) (from i n : ℕ) (l m : List A) → m ≡ laid f from i l → i ≤ n → n ≤ i → m ≡ laid f from n l
  unfolding laid
  laid_end f from i n l m h a b = turns_end _ _ _ _ _ h a b

  pub length_laid : (f : ℕ → A) (from n : ℕ) (l : List A) → length (laid f from n l) ≡ length l
  unfolding laid
  length_laid f from n l = turns_length (λ k m. set m (from + k) (f k)) n l (λ k m. length-set m (from + k) (f k))

  pub laid_at : (f : ℕ → A) (from n : ℕ) (l : List A) (k : ℕ) (d : A) → k < n → from + n ≤ length l → get_or (laid f from n l) (from + k) d ≡ f k
  unfolding laid
  laid_at f from n l k d h r =
      turns_at (λ k m. set m (from + k) (f k)) k n l (from + k) d (f k) h
      (λ m e. get_or-set_same m (from + k) (f k) d (rw e (omega arith)))
      (λ k m. length-set m (from + k) (f k))
      (λ i m a b. get_or-set_other m (from + i) (from + k) (f i) d (λ e. omega arith))

  pub laid_off : (f : ℕ → A) (from n : ℕ) (l : List A) (j : ℕ) (d : A) → j < from → get_or (laid f from n l) j d ≡ get_or l j d
  unfolding laid turns
  laid_off f from n l j d h =
      turns_keep (λ k m. set m (from + k) (f k)) 0 n l j d (omega arith) (λ i m a b. get_or-set_other m (from + i) j (f i) d (λ e. omega arith))

  -- a loop that stores f k at k: its first fact, its step, and, over every place of the list, its end
  unfoldable pub fill : (ℕ → A) → ℕ → List A → List A
  fill f n l = turns (λ k m. set m k (f k)) n l

  pub fill_start : (f : ℕ → A) (l : List A) → l ≡ fill f 0 l
  unfolding fill
  fill_start f l = turns_start _ _

  pub fill_step : (f : ℕ → A) (n : ℕ) (l m v : List A) → v ≡ set m n (f n) → m ≡ fill f n l → v ≡ fill f (n + 1) l
  unfolding fill
  fill_step f n l m v e h = e ∙ turns_step (λ k m. set m k (f k)) n l m h

  pub turns_full : (f : ℕ → A) (n : ℕ) (l : List A) (d : A) → length l ≡ n → turns (λ k m. set m k (f k)) n l ≡ upto f n
  turns_full f n l d e =
      upto_is f n d (turns (λ k m. set m k (f k)) n l)
      (turns_length (λ k m. set m k (f k)) n l (λ k m. length-set m k (f k)) ∙ e)
      (λ i h. turns_at (λ k m. set m k (f k)) i n l i d (f i) h
      (λ m o. get_or-set_same m i (f i) d (rw (o, e) h))
      (λ k m. length-set m k (f k))
      (λ k m a b. get_or-set_other m k i (f k) d (λ o. omega arith)))

  -- stores at other places
  pub skip2 : (l : List A) (a b : ℕ) (u v : A) (j : ℕ) (d : A) → j ≢ a → j ≢ b → get_or (set (set l a u) b v) j d ≡ get_or l j d
  skip2 l a b u v j d p q = get_or-set_other (set l a u) b j v d q ∙ get_or-set_other l a j u d p

  pub skip3 : (l : List A) (a b c : ℕ) (u v w : A) (j : ℕ) (d : A) → j ≢ a → j ≢ b → j ≢ c → get_or (set (set (set l a u) b v) c w) j d ≡ get_or l j d
  skip3 l a b c u v w j d p q r = get_or-set_other (set (set l a u) b v) c j w d r ∙ skip2 l a b u v j d p q

  pub skip4 : (l : List A) (a b c e : ℕ) (u v w x : A) (j : ℕ) (d : A) → j ≢ a → j ≢ b → j ≢ c → j ≢ e → get_or (set (set (set (set l a u) b v) c w) e x) j d ≡ get_or l j d
  skip4 l a b c e u v w x j d p q r s = get_or-set_other (set (set (set l a u) b v) c w) e j x d s ∙ skip3 l a b c u v w j d p q r

  -- a loop that stores f k at k, from 0 up: f's values, and the rest of the list
  pub turns_fill : (f : ℕ → A) (n : ℕ) (l : List A) → n ≤ length l → turns (λ k m. set m k (f k)) n l ≡ upto f n ++ drop n l
  unfolding turns upto
  turns_fill f zero l h = refl
  turns_fill f (suc n) l h =
      let k : n < length l = omega arith in
      rw (turns_fill f n l (omega arith), drop-cons l n (f n) k, set_at (upto f n) (get_or l n (f n)) (drop (suc n) l) (f n) n (length_upto f n), append_assoc)

  -- f 0, g 0, f 1, g 1, .. up to n - 1
  unfoldable pub pairs : (ℕ → A) → (ℕ → A) → ℕ → List A
  pairs f g zero = []
  pairs f g (suc n) = pairs f g n ++ (f n ∷ g n ∷ [])

  pub length_pairs : (f g : ℕ → A) (n : ℕ) → length (pairs f g n) ≡ n * 2
  unfolding pairs
  length_pairs f g zero = refl
  length_pairs f g (suc n) = simp (length-append, length_pairs f g n) (omega arith)

  -- a loop that stores f k and g k at 2k and 2k + 1
  pub turns_pairs : (f g : ℕ → A) (n : ℕ) (l : List A) → n * 2 ≤ length l
      → turns (λ k m. set (set m (k * 2) (f k)) (k * 2 + 1) (g k)) n l ≡ pairs f g n ++ drop (n * 2) l
  unfolding turns pairs
  turns_pairs f g zero l h = refl
  turns_pairs f g (suc n) l h =
      let j : n * 2 < length l = omega arith in
      let k : suc (n * 2) < length l = omega arith in
      let e : n * 2 + 1 ≡ suc (n * 2) = omega arith in
      let e2 : suc n * 2 ≡ suc (suc (n * 2)) = omega arith in
      let p = pairs f g n in
      let len : length (p ++ (f n ∷ [])) ≡ suc (n * 2) = simp (length-append, length_pairs f g n) (omega arith) in
      rw (
        turns_pairs f g n l (omega arith),
        drop-cons l (n * 2) (f n) j,
        drop-cons l (suc (n * 2)) (f n) k,
        set_at p (get_or l (n * 2) (f n)) (get_or l (suc (n * 2)) (f n) ∷ drop (suc (suc (n * 2))) l) (f n) (n * 2) (length_pairs f g n),
        e,
        e2,
        ← append_snoc p (f n) (get_or l (suc (n * 2)) (f n) ∷ drop (suc (suc (n * 2))) l),
        set_at (p ++ (f n ∷ [])) (get_or l (suc (n * 2)) (f n)) (drop (suc (suc (n * 2))) l) (g n) (suc (n * 2)) len,
      ) (simp append_assoc)

  pub fill_end : (f : ℕ → A) (i n : ℕ) (l m : List A) (d : A) → m ≡ fill f i l → i ≤ n → n ≤ i → length l ≡ n → m ≡ upto f n
  unfolding fill
  fill_end f i n l m d h le ge e = turns_end (λ k m. set m k (f k)) i n l m h le ge ∙ turns_full f n l d e

-- row p of a flat table of n rows, c places each, ends within it
pub row_ends : (p n c size : ℕ) → p < n → n * c ≤ size → p * c + c ≤ size
row_ends p n c size h le =
    let m : (p + 1) * c ≤ n * c = mul-le-mul_right c (omega arith) in
    let e : (p + 1) * c ≡ p * c + c = simp add-mul (ap (λ (k : ℕ). p * c + k) (one-mul c)) in
    omega arith

-- ---- a test of every place
pub all_true : (g : ℕ → Bool) (n : ℕ) → ((k : ℕ) → k < n → g k ≡ true) → turns (λ (k : ℕ) (b : Bool). b && g k) n true ≡ true
unfolding turns
all_true g zero h = refl
all_true g (suc n) h = rw (all_true g n (λ k l. h k (omega arith)), h n (omega arith))

pub true_all : (g : ℕ → Bool) (n : ℕ) → turns (λ (k : ℕ) (b : Bool). b && g k) n true ≡ true → (k : ℕ) → k < n → g k ≡ true
unfolding turns
true_all g zero h k l = absurd (omega arith)
true_all g (suc n) h k l =
    let t = and_true (turns (λ (k : ℕ) (b : Bool). b && g k) n true) (g n) h in
    ⊎_elim (λ m. true_all g n t.0 k m) (λ e. ap g e ∙ t.1) (le_or k n (omega arith))
