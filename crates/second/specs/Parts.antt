-- The second stream's floats: the one array taken apart, and put together part by part. Assumes nothing.
use Rattle.std.specs.Prelude.{◌≡◌, refl, ℕ, ◌+◌, ◌≤◌, length, get_or, drop, Float}
use Rattle.std.proofs.Common.{ap, sym, ◌∙◌, arith, length-append, length-take, length-drop, length-take-le, take_all, take_at, drop_at, take-add, drop-drop}
use mathlib.Core.List.{List, [], ◌++◌, append_assoc, append-nil}
use Rattle.std.proofs.Math.ListN.{take}
use Rattle.std.specs.Float.{nan}
use Rattle.laws.specs.Places.{fill, fill_end, upto_is}
use Rattle.drift_tracker.specs.Drift.{Memory}
use Rattle.drift_detector.specs.Ranges.{Sized}
use Rattle.second.specs.Second.{memory_of, costs_of, joined_of}

-- ---- one part of a list
module _ {A : Type 0} where
  part_length : (a n : ℕ) (l : List A) → a + n ≤ length l → length (take n (drop a l)) ≡ n
  part_length a n l h = length-take-le n (drop a l) (rw (length-drop a l) (omega arith))

  -- of a list whose end from a on is p and q
  part_is : (a n : ℕ) (l p q : List A) → drop a l ≡ p ++ q → length p ≡ n → take n (drop a l) ≡ p
  part_is a n l p q e h = ap (take n) e ∙ take_at p q n h

  part_past : (a n : ℕ) (l p q : List A) → drop a l ≡ p ++ q → length p ≡ n → drop (a + n) l ≡ q
  part_past a n l p q e h = sym (drop-drop n a l) ∙ ap (drop n) e ∙ drop_at p q n h

  -- a list with another in the place of its n elements from a on
  abbrev pub with_part : ℕ → ℕ → List A → List A → List A
  with_part a n l p = take a l ++ (p ++ drop n (drop a l))

  -- after what is done up to a
  part_put : (a n : ℕ) (done l p x : List A) → length done ≡ a → x ≡ done ++ drop a l → with_part a n x p ≡ done ++ p ++ drop (a + n) l
  part_put a n done l p x h e =
      let first : take a x ≡ done = ap (take a) e ∙ take_at done (drop a l) a h in
      let from : drop a x ≡ drop a l = ap (drop a) e ∙ drop_at done (drop a l) a h in
      let last : drop n (drop a x) ≡ drop (a + n) l = ap (drop n) from ∙ drop-drop n a l in
      ap (λ (t : List A). t ++ (p ++ drop n (drop a x))) first
      ∙ ap (λ (t : List A). done ++ (p ++ t)) last
      ∙ sym (append_assoc done p (drop (a + n) l))

-- a loop that stores each number of a list in another of its length leaves that list
pub copied_is : (from to m : List Float) (k : ℕ) → m ≡ fill (λ i. get_or from i nan) k to → k ≤ length to → length to ≤ k → length from ≡ length to → m ≡ from
copied_is from to m k e h g s =
    fill_end (λ i. get_or from i nan) k (length to) to m nan e h g refl
    ∙ sym (upto_is (λ i. get_or from i nan) (length to) nan from s (λ i l. refl))

-- ---- the parts' lengths
pub memory_sized : (m : List Float) → 9280 ≤ length m → Sized (memory_of m)
unfolding memory_of
memory_sized m h = record {
  real_size = length-take-le 256 m (omega arith);
  imaginary_size = part_length 256 256 m (omega arith);
  drift_size = part_length 512 512 m (omega arith);
  inverse_size = part_length 1024 8192 m (omega arith);
}

pub costs_sized : (m : List Float) → 9280 ≤ length m → length (costs_of m) ≡ 64
unfolding costs_of
costs_sized m h = part_length 9216 64 m h

-- an array that has costs has all before them
pub long_enough : (m : List Float) → length (costs_of m) ≡ 64 → 9280 ≤ length m
unfolding costs_of
long_enough m h =
    let e = length-take 64 (drop 9216 m) in
    let d = length-drop 9216 m in
    omega arith

-- ---- TAKEN APART AND PUT TOGETHER
pub split_join : (m : List Float) → length m ≡ 9280 → joined_of (memory_of m) (costs_of m) ≡ m
unfolding joined_of memory_of costs_of
split_join m h =
    ap (λ (t : List Float). t ++ take 512 (drop 512 m) ++ take 8192 (drop 1024 m) ++ take 64 (drop 9216 m)) (sym (take-add 256 256 m))
    ∙ ap (λ (t : List Float). t ++ take 8192 (drop 1024 m) ++ take 64 (drop 9216 m)) (sym (take-add 512 512 m))
    ∙ ap (λ (t : List Float). t ++ take 64 (drop 9216 m)) (sym (take-add 1024 8192 m))
    ∙ sym (take-add 9216 64 m)
    ∙ take_all 9280 m (omega arith)

-- the five parts put into a list, one after the other
module _ (m : Memory) (costs l : List Float) (s : Sized m) where
  abbrev to_real : List Float
  to_real = with_part 0 256 l m.channels.real

  abbrev to_imaginary : List Float
  to_imaginary = with_part 256 256 to_real m.channels.imaginary

  abbrev to_drift : List Float
  to_drift = with_part 512 512 to_imaginary m.drift

  abbrev to_inverse : List Float
  to_inverse = with_part 1024 8192 to_drift m.inverse

  abbrev to_costs : List Float
  to_costs = with_part 9216 64 to_inverse costs

  channels_length : length (m.channels.real ++ m.channels.imaginary) ≡ 512
  channels_length = length-append m.channels.real m.channels.imaginary ∙ rw (s.real_size, s.imaginary_size)

  drift_length : length (m.channels.real ++ m.channels.imaginary ++ m.drift) ≡ 1024
  drift_length = length-append (m.channels.real ++ m.channels.imaginary) m.drift ∙ rw (channels_length, s.drift_size)

  inverse_length : length (m.channels.real ++ m.channels.imaginary ++ m.drift ++ m.inverse) ≡ 9216
  inverse_length = length-append (m.channels.real ++ m.channels.imaginary ++ m.drift) m.inverse ∙ rw (drift_length, s.inverse_size)

  imaginary_put : to_imaginary ≡ m.channels.real ++ m.channels.imaginary ++ drop 512 l
  imaginary_put = part_put 256 256 m.channels.real l m.channels.imaginary to_real s.real_size refl

  drift_put : to_drift ≡ m.channels.real ++ m.channels.imaginary ++ m.drift ++ drop 1024 l
  drift_put = part_put 512 512 (m.channels.real ++ m.channels.imaginary) l m.drift to_imaginary channels_length imaginary_put

  inverse_put : to_inverse ≡ m.channels.real ++ m.channels.imaginary ++ m.drift ++ m.inverse ++ drop 9216 l
  inverse_put = part_put 1024 8192 (m.channels.real ++ m.channels.imaginary ++ m.drift) l m.inverse to_drift drift_length drift_put

  costs_put : to_costs ≡ joined_of m costs ++ drop 9280 l
  unfolding joined_of
  costs_put = part_put 9216 64 (m.channels.real ++ m.channels.imaginary ++ m.drift ++ m.inverse) l costs to_inverse inverse_length inverse_put

module _ (m : Memory) (costs rest : List Float) (s : Sized m) (c : length costs ≡ 64) (l : List Float) (e : l ≡ joined_of m costs ++ rest) where
  real_from : drop 0 l ≡ m.channels.real ++ (m.channels.imaginary ++ (m.drift ++ (m.inverse ++ (costs ++ rest))))
  unfolding joined_of
  real_from = e ∙ simp append_assoc

  imaginary_from : drop 256 l ≡ m.channels.imaginary ++ (m.drift ++ (m.inverse ++ (costs ++ rest)))
  imaginary_from = part_past 0 256 l m.channels.real _ real_from s.real_size

  drift_from : drop 512 l ≡ m.drift ++ (m.inverse ++ (costs ++ rest))
  drift_from = part_past 256 256 l m.channels.imaginary _ imaginary_from s.imaginary_size

  inverse_from : drop 1024 l ≡ m.inverse ++ (costs ++ rest)
  inverse_from = part_past 512 512 l m.drift _ drift_from s.drift_size

  costs_from : drop 9216 l ≡ costs ++ rest
  costs_from = part_past 1024 8192 l m.inverse _ inverse_from s.inverse_size

  pub memory_joined : memory_of l ≡ m
  unfolding memory_of
  memory_joined =
      let real : take 256 l ≡ m.channels.real = part_is 0 256 l m.channels.real _ real_from s.real_size in
      let imaginary : take 256 (drop 256 l) ≡ m.channels.imaginary = part_is 256 256 l m.channels.imaginary _ imaginary_from s.imaginary_size in
      let drift : take 512 (drop 512 l) ≡ m.drift = part_is 512 512 l m.drift _ drift_from s.drift_size in
      let inverse : take 8192 (drop 1024 l) ≡ m.inverse = part_is 1024 8192 l m.inverse _ inverse_from s.inverse_size in
      λ i. record { channels = record { real = real i; imaginary = imaginary i }; drift = drift i; inverse = inverse i }

  pub costs_joined : costs_of l ≡ costs
  unfolding costs_of
  costs_joined = part_is 9216 64 l costs _ costs_from c

pub join_split : (m : Memory) (costs : List Float) → Sized m → length costs ≡ 64
    → (memory_of (joined_of m costs) ≡ m) × (costs_of (joined_of m costs) ≡ costs)
join_split m costs s c =
    let e = sym (append-nil (joined_of m costs)) in
    (memory_joined m costs [] s c (joined_of m costs) e, costs_joined m costs [] s c (joined_of m costs) e)

-- ---- what the code makes
pub taken_is : (l real imaginary drift inverse costs : List Float)
    → real ≡ take 256 l → imaginary ≡ take 256 (drop 256 l) → drift ≡ take 512 (drop 512 l) → inverse ≡ take 8192 (drop 1024 l) → costs ≡ take 64 (drop 9216 l)
    → (◌≡◌ {A = Memory} (record { channels = record { real = real; imaginary = imaginary }; drift = drift; inverse = inverse }) (memory_of l)) × (costs ≡ costs_of l)
unfolding memory_of costs_of
taken_is l real imaginary drift inverse costs r i d v c = (λ j. record { channels = record { real = r j; imaginary = i j }; drift = d j; inverse = v j }, c)

pub put_is : (l : List Float) (m : Memory) (costs real imaginary drift inverse last : List Float) → Sized m
    → real ≡ m.channels.real → imaginary ≡ m.channels.imaginary → drift ≡ m.drift → inverse ≡ m.inverse → last ≡ costs
    → with_part 9216 64 (with_part 1024 8192 (with_part 512 512 (with_part 256 256 (with_part 0 256 l real) imaginary) drift) inverse) last ≡ joined_of m costs ++ drop 9280 l
put_is l m costs real imaginary drift inverse last s r i d v c = rw (r, i, d, v, c) (costs_put m costs l s)
