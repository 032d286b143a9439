-- What the proofs of the inverses' inheritance apply, over plain variables. Assumes nothing.
use Rattle.std.specs.Prelude.{◌≡◌, Bool, true, ◌&&◌, List, eqb, length, get_or, Float}
use Rattle.std.proofs.Math.Path.{refl, ap}
use Rattle.std.proofs.Common.{sym, ◌∙◌, eq-eqb, ne_eqb, eqb-true}
use Rattle.std.proofs.Math.Logic.{⊎_elim}
use Prim.Native.Nat.{ℕ, zero, suc, ◌+◌, ◌-◌, ◌*◌, ◌/◌, ◌%◌, ◌≤◌, ◌<◌}
use native.Mathlib.Omega.{arith}
use Rattle.std.proofs.Math.Bool.{cond}
use Rattle.laws.specs.Ring.{lt_or_ge}
use Rattle.laws.specs.Turns.{turns, turns_start, turns_step, turns_end}
use Rattle.laws.specs.Branches.{and_true}
use Rattle.laws.specs.Places.{upto_at}
use Rattle.complex.specs.declared.Complex32.{Complex32}
use Rattle.complex.specs.Complex.{zero_pair}
use Rattle.least_squares.specs.Lanes.{pair_at, put_pair, state_at, inverse_of, in_group}
use Rattle.lane_sums.specs.LaneLaws.{pairs_is, put_length, put_same, put_other, swept_to, swept_length, swept_left, swept_done, swept_start, swept_turn}
use Rattle.inheriting.specs.Inheriting.{place_of, alike_of, put_four, four_turn, fours_put}

-- ---- four numbers put
module _ (half : ℕ) (m : List Float) (at : ℕ) (x y z w : Complex32) where
  abbrev one : List Float
  one = put_pair half m at x

  abbrev two : List Float
  two = put_pair half one (at + 1) y

  abbrev three : List Float
  three = put_pair half two (at + 2) z

  one_length : length one ≡ length m
  one_length = put_length half m at x

  two_length : length two ≡ length m
  two_length = put_length half one (at + 1) y ∙ one_length

  three_length : length three ≡ length m
  three_length = put_length half two (at + 2) z ∙ two_length

  four_length : length (put_four half m at x y z w) ≡ length m
  four_length = put_length half three (at + 3) w ∙ three_length

  four_off : (k : ℕ) → at + 3 < half → k < half → (k ≡ at → ⊥) → (k ≡ at + 1 → ⊥) → (k ≡ at + 2 → ⊥) → (k ≡ at + 3 → ⊥) → pair_at half (put_four half m at x y z w) k ≡ pair_at half m k
  four_off k b h p q r s =
      put_other half three (at + 3) w k b h s
      ∙ put_other half two (at + 2) z k (omega arith) h r
      ∙ put_other half one (at + 1) y k (omega arith) h q
      ∙ put_other half m at x k (omega arith) h p

  four_written : (f : ℕ → Complex32) (k : ℕ) → at + 3 < half → length m ≡ half + half → x ≡ f at → y ≡ f (at + 1) → z ≡ f (at + 2) → w ≡ f (at + 3)
      → at ≤ k → k < at + 4 → pair_at half (put_four half m at x y z w) k ≡ f k
  four_written f k b len fx fy fz fw low high =
      ⊎_elim
      (λ h. let e : k ≡ at = omega arith in
      put_other half three (at + 3) w k b (omega arith) (λ o. omega arith)
      ∙ put_other half two (at + 2) z k (omega arith) (omega arith) (λ o. omega arith)
      ∙ put_other half one (at + 1) y k (omega arith) (omega arith) (λ o. omega arith)
      ∙ ap (pair_at half one) e
      ∙ put_same half m at x (omega arith) len
      ∙ fx
      ∙ ap f (sym e))
      (λ h1. ⊎_elim
      (λ h. let e : k ≡ at + 1 = omega arith in
      put_other half three (at + 3) w k b (omega arith) (λ o. omega arith)
      ∙ put_other half two (at + 2) z k (omega arith) (omega arith) (λ o. omega arith)
      ∙ ap (pair_at half two) e
      ∙ put_same half one (at + 1) y (omega arith) (one_length ∙ len)
      ∙ fy
      ∙ ap f (sym e))
      (λ h2. ⊎_elim
      (λ h. let e : k ≡ at + 2 = omega arith in
      put_other half three (at + 3) w k b (omega arith) (λ o. omega arith)
      ∙ ap (pair_at half three) e
      ∙ put_same half two (at + 2) z (omega arith) (two_length ∙ len)
      ∙ fz
      ∙ ap f (sym e))
      (λ h3. let e : k ≡ at + 3 = omega arith in
      ap (pair_at half (put_four half m at x y z w)) e
      ∙ put_same half three (at + 3) w b (three_length ∙ len)
      ∙ fw
      ∙ ap f (sym e))
      (lt_or_ge k (at + 3)))
      (lt_or_ge k (at + 2)))
      (lt_or_ge k (at + 1))

-- a turn that writes the four places from `at` on
pub four_next : (half : ℕ) (t : ℕ → ℕ) (f : ℕ → Complex32) (n : ℕ) (l m : List Float) (at : ℕ) (x y z w : Complex32) → m ≡ swept_to half t f n l → at + 3 < half
    → x ≡ f at → y ≡ f (at + 1) → z ≡ f (at + 2) → w ≡ f (at + 3)
    → ((k : ℕ) → k < half → t k ≡ n → (at ≤ k) × (k < at + 4))
    → ((k : ℕ) → at ≤ k → k < at + 4 → t k ≡ n) → put_four half m at x y z w ≡ swept_to half t f (n + 1) l
four_next half t f n l m at x y z w e b fx fy fz fw back turn =
    let len : length m ≡ half + half = swept_length half t f n l m e in
    swept_turn half t f n l m (put_four half m at x y z w) e (four_length half m at x y z w ∙ len)
    (λ k h q. four_written half m at x y z w f k b len fx fy fz fw (back k h q).0 (back k h q).1)
    (λ k h o. four_off half m at x y z w k b h
    (λ p. o (turn k (omega arith) (omega arith)))
    (λ p. o (turn k (omega arith) (omega arith)))
    (λ p. o (turn k (omega arith) (omega arith)))
    (λ p. o (turn k (omega arith) (omega arith))))

-- ---- places that are one
pub alike_is : (a b c d : ℕ) (r : Bool) → r ≡ alike_of a b c d → r ≡ true → (a ≡ b) × (a ≡ c) × (a ≡ d)
alike_is a b c d r e h =
    let all = and_true (eqb a b && eqb a c) (eqb a d) (sym e ∙ h) in
    let two = and_true (eqb a b) (eqb a c) all.0 in
    (eqb-true a b two.0, eqb-true a c two.1, eqb-true a d all.1)

-- what is laid from one place four times is laid from four that are one
pub alike_laid : (f : ℕ → ℕ → ℕ → ℕ → List Float) (a b c d : ℕ) (v : List Float) (r : Bool) → r ≡ alike_of a b c d → r ≡ true → v ≡ f a a a a → v ≡ f a b c d
alike_laid f a b c d v r e h q =
    let one = alike_is a b c d r e h in
    q ∙ (λ i. f a (one.0 i) (one.1 i) (one.2 i))

-- ---- the loop over the numbers of four inverses
module _ (old : List Float) (a b c d to : ℕ) where
  pub fours_start : (l : List Float) → l ≡ fours_put old a b c d to 0 l
  unfolding fours_put
  fours_start l = turns_start _ _

  pub fours_step : (n : ℕ) (l m v : List Float) → v ≡ four_turn old a b c d to n m → m ≡ fours_put old a b c d to n l → v ≡ fours_put old a b c d to (n + 1) l
  unfolding fours_put
  fours_step n l m v e h = e ∙ turns_step (four_turn old a b c d to) n l m h

  pub fours_end : (n : ℕ) (l m : List Float) → m ≡ fours_put old a b c d to n l → n ≤ 64 → 64 ≤ n → m ≡ fours_put old a b c d to 64 l
  unfolding fours_put
  fours_end n l m h p q = turns_end (four_turn old a b c d to) n 64 l m h p q

  pub fours_alike : (l v : List Float) (r : Bool) → r ≡ alike_of a b c d → r ≡ true → v ≡ fours_put old a a a a to 64 l → v ≡ fours_put old a b c d to 64 l
  fours_alike l v r e h q = alike_laid (λ a b c d. fours_put old a b c d to 64 l) a b c d v r e h q

-- where each turn of the loop is the next of a sweep, so are all 64
module _ (t : ℕ → ℕ) (f : ℕ → Complex32) (old : List Float) (a b c d to base : ℕ) (given : List Float)
    (next : (e : ℕ) (r : List Float) → e < 64 → r ≡ swept_to 4096 t f (base + e) given → four_turn old a b c d to e r ≡ swept_to 4096 t f (base + e + 1) given) where
  fours_some : (n : ℕ) (r : List Float) → n ≤ 64 → r ≡ swept_to 4096 t f base given → fours_put old a b c d to n r ≡ swept_to 4096 t f (base + n) given
  unfolding fours_put turns
  fours_some zero r h q = q ∙ ap (λ (i : ℕ). swept_to 4096 t f i given) (omega arith)
  fours_some (suc n) r h q =
      let s : base + n + 1 ≡ base + suc n = omega arith in
      next n (fours_put old a b c d to n r) (omega arith) (fours_some n r (omega arith) q) ∙ ap (λ (i : ℕ). swept_to 4096 t f i given) s

  fours_swept : (r v : List Float) (n : ℕ) → v ≡ fours_put old a b c d to 64 r → r ≡ swept_to 4096 t f base given → base + 64 ≡ n → v ≡ swept_to 4096 t f n given
  fours_swept r v n e q s = e ∙ fours_some 64 r (omega arith) q ∙ ap (λ (i : ℕ). swept_to 4096 t f i given) s

-- ---- the number e of a state's inverse
pub inverse_at : (old : List Float) (s e at : ℕ) → e < 64 → at ≡ place_of s + 4 * e → get_or (inverse_of old s) e zero_pair ≡ pair_at 4096 old at
unfolding inverse_of
inverse_at old s e at h q =
    let r : 256 * (s / 4) + 4 * e + s % 4 ≡ at = omega arith in
    upto_at (λ e. pair_at 4096 old (256 * (s / 4) + 4 * e + s % 4)) 64 e zero_pair h ∙ ap (pair_at 4096 old) r

-- ---- the inverses of sixteen states

-- the turn in which a place is written: those of the other states come after all turns
abbrev pub inherit_turn : ℕ → ℕ → ℕ
inherit_turn g k = (k / 4 + 1024 - 256 * g) % 1024

turn_of : (x g n : ℕ) → g < 4 → n < 256 → x ≡ 256 * g + n → (x + 1024 - 256 * g) % 1024 ≡ n
turn_of x g n h b e = let q : x + 1024 - 256 * g ≡ 1024 + n = omega arith in omega arith

place_of_turn : (x g n : ℕ) → x < 1024 → g < 4 → n < 256 → (x + 1024 - 256 * g) % 1024 ≡ n → x ≡ 256 * g + n
place_of_turn x g n h b c e = omega arith

inherit_turn_lem : (g k e m : ℕ) → g < 4 → m < 4 → e < 64 → 1024 * g + 256 * m + 4 * e ≤ k → k < 1024 * g + 256 * m + 4 * e + 4 → inherit_turn g k ≡ 64 * m + e
inherit_turn_lem g k e m h b c low high =
    let q : k / 4 ≡ 256 * g + (64 * m + e) = omega arith in
    turn_of (k / 4) g (64 * m + e) h (omega arith) q

inherit_back : (g k e m : ℕ) → g < 4 → m < 4 → e < 64 → k < 4096 → inherit_turn g k ≡ 64 * m + e
    → (1024 * g + 256 * m + 4 * e ≤ k) × (k < 1024 * g + 256 * m + 4 * e + 4)
inherit_back g k e m h b c s t =
    let q : k / 4 ≡ 256 * g + (64 * m + e) = place_of_turn (k / 4) g (64 * m + e) (omega arith) h (omega arith) t in
    (omega (arith, q), omega (arith, q))

module _ (g m e j k : ℕ) (b : m < 4) (c : e < 64) (h : j < 4) (q : k ≡ 1024 * g + 256 * m + 4 * e + j) where
  state_is : state_at k ≡ 16 * g + 4 * m + j
  state_is =
      let d : k / 256 ≡ 4 * g + m = omega arith in
      let r : k % 4 ≡ j = omega arith in
      rw (d, r) (omega arith)

  number_is : k / 4 % 64 ≡ e
  number_is = let d : k / 4 ≡ 64 * (4 * g + m) + e = omega arith in rw d (omega arith)

group_of : (k g : ℕ) → k / 4 < 256 * g + 256 → 256 * g ≤ k / 4 → k / 1024 ≡ g
group_of k g h b = omega arith

group_turn : (k g : ℕ) → g < 4 → k / 1024 ≡ g → inherit_turn g k < 256
group_turn k g h e =
    let low : 256 * g ≤ k / 4 = omega arith in
    let high : k / 4 < 256 * g + 256 = omega arith in
    let t = turn_of (k / 4) g (k / 4 - 256 * g) h (omega (arith, low, high)) (omega (arith, low)) in
    omega (arith, t, low, high)

module _ (old : List Float) (parents : List ℕ) (g : ℕ) where
  abbrev inherited : ℕ → List Complex32
  inherited s = inverse_of old (get_or parents s 0)

  abbrev in_states : ℕ → Complex32
  in_states k = get_or (inherited (state_at k)) (k / 4 % 64) zero_pair

  -- after n turns
  unfoldable pub inherited_to : ℕ → List Float → List Float
  inherited_to n l = swept_to 4096 (inherit_turn g) in_states n l

  inherited_at : (m e j a k p : ℕ) → m < 4 → e < 64 → j < 4 → a ≡ place_of (get_or parents p 0) → p ≡ 16 * g + 4 * m + j → k ≡ 1024 * g + 256 * m + 4 * e + j
      → pair_at 4096 old (a + 4 * e) ≡ in_states k
  inherited_at m e j a k p hm he hj ea ep ek =
      sym (ap (λ (i : ℕ). get_or (inherited i) (k / 4 % 64) zero_pair) (state_is g m e j k hm he hj ek ∙ sym ep)
      ∙ ap (λ (i : ℕ). get_or (inherited p) i zero_pair) (number_is g m e j k hm he hj ek)
      ∙ inverse_at old (get_or parents p 0) e (place_of (get_or parents p 0) + 4 * e) he refl
      ∙ ap (λ (i : ℕ). pair_at 4096 old (i + 4 * e)) (sym ea))

  module _ (m a b c d : ℕ) (hg : g < 4) (h : m < 4)
      (ea : a ≡ place_of (get_or parents (16 * g + 4 * m) 0))
      (eb : b ≡ place_of (get_or parents (16 * g + 4 * m + 1) 0))
      (ec : c ≡ place_of (get_or parents (16 * g + 4 * m + 2) 0))
      (ed : d ≡ place_of (get_or parents (16 * g + 4 * m + 3) 0))
      (given : List Float) where
    inherit_next : (e : ℕ) (r : List Float) → e < 64 → r ≡ swept_to 4096 (inherit_turn g) in_states (64 * m + e) given
        → four_turn old a b c d (1024 * g + 256 * m) e r ≡ swept_to 4096 (inherit_turn g) in_states (64 * m + e + 1) given
    inherit_next e r he q =
        four_next 4096 (inherit_turn g) in_states (64 * m + e) given r (1024 * g + 256 * m + 4 * e) _ _ _ _ q (omega arith)
        (inherited_at m e 0 a (1024 * g + 256 * m + 4 * e) (16 * g + 4 * m) h he (omega arith) ea (omega arith) (omega arith))
        (inherited_at m e 1 b (1024 * g + 256 * m + 4 * e + 1) (16 * g + 4 * m + 1) h he (omega arith) eb refl refl)
        (inherited_at m e 2 c (1024 * g + 256 * m + 4 * e + 2) (16 * g + 4 * m + 2) h he (omega arith) ec refl refl)
        (inherited_at m e 3 d (1024 * g + 256 * m + 4 * e + 3) (16 * g + 4 * m + 3) h he (omega arith) ed refl refl)
        (λ k s t. inherit_back g k e m hg h he s t)
        (λ k low high. inherit_turn_lem g k e m hg h he low high)

    pub inherit_step : (r v : List Float) → v ≡ fours_put old a b c d (1024 * g + 256 * m) 64 r → r ≡ inherited_to (64 * m) given → v ≡ inherited_to (64 * (m + 1)) given
    unfolding inherited_to
    inherit_step r v e q =
        fours_swept (inherit_turn g) in_states old a b c d (1024 * g + 256 * m) (64 * m) given inherit_next r v (64 * (m + 1)) e q (omega arith)

  pub inherit_start : (l : List Float) → length l ≡ 8192 → l ≡ inherited_to 0 l
  unfolding inherited_to
  inherit_start l s = swept_start 4096 (inherit_turn g) in_states l s

  inherit_all : (l v : List Float) → g < 4 → v ≡ inherited_to 256 l → v ≡ in_group g inherited l
  inherit_all l v hg e =
      unfold inherited_to in_group in
      pairs_is 4096 (λ n. cond (eqb (n / 1024) g) (in_states n) (pair_at 4096 l n)) v (swept_length 4096 (inherit_turn g) in_states 256 l v e) (λ k b.
      ⊎_elim
      (λ h. let q : k / 4 ≡ 256 * g + inherit_turn g k = place_of_turn (k / 4) g (inherit_turn g k) (omega arith) hg h refl in
      swept_done 4096 (inherit_turn g) in_states 256 l v k e b h
      ∙ rw (eq-eqb (k / 1024) g (group_of k g (omega (arith, q, h)) (omega (arith, q)))))
      (λ o. swept_left 4096 (inherit_turn g) in_states 256 l v k e b o
      ∙ rw (ne_eqb (k / 1024) g (λ q. omega (arith, group_turn k g hg q, o))))
      (lt_or_ge (inherit_turn g k) 256))

  pub inherit_end : (m : ℕ) (l v : List Float) → g < 4 → v ≡ inherited_to (64 * m) l → m ≤ 4 → 4 ≤ m → v ≡ in_group g inherited l
  inherit_end m l v hg e p q =
      let s : 64 * m ≡ 256 = omega arith in
      inherit_all l v hg (e ∙ ap (λ (n : ℕ). inherited_to n l) s)
