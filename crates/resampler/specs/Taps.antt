-- How the taps stand in the table: each at a place of its own, arm after arm; and what the loops that write them leave. Assumes nothing.
use Rattle.std.specs.Prelude.{◌≡◌, ℕ, zero, suc, ◌+◌, ◌-◌, ◌*◌, ◌/◌, ◌%◌, ◌<◌, ◌≤◌, List, [], ◌∷◌, ◌++◌, length, get_or, drop, set, from_bits, slice_index_or, slice_set, refl, Float}
use Rattle.std.proofs.Common.{sym, ◌∙◌, append_assoc, mod-lt, div-add-mod', div-lt_iff_lt-mul, mul-le-mul_right, arith, lit<, length-drop, get_or-drop, ext_get_or, drop-cons}
use Rattle.std.proofs.Math.Path.{ap}
use Rattle.std.proofs.Math.Arith.{digits_mod, digits_div}
use Rattle.std.proofs.Math.ListN.{length-set}
use Rattle.std.proofs.Math.Seq.{get_or-set_same, get_or-set_other}
use Rattle.std.proofs.lemmas.List.{get_or_at, set_at}
use Rattle.std.specs.Float.Ieee.{nan, add}
use Rattle.std.specs.Float.{binary32, binary64}
use Rattle.laws.specs.Turns.{turns, turns_more, turns_step}
use Rattle.laws.specs.Places.{upto, upto_same, length_upto, turns_length, turns_keep, turns_at}
use Rattle.numbers.specs.Numbers.{convert}
use Rattle.resampler.specs.Loops.{tap_place_of, raw_turn, raw_of, divided_of, Raw, both_turn, start_raw, raw_from}
use Rattle.resampler.specs.Design.{omega_of, raw_tap_of, tap_sum_turn, tap_sum, over_sum, tap_of, tap_at, table_of, written_of}

module _ (c : ℕ) (C : 0 < c) where
  -- a place below 32 c is in one of 32 arms
  arm_of : (p : ℕ) → p < 32 * c → p / c < 32
  arm_of p h = (div-lt_iff_lt-mul C).1 h

  pub tap_there : (p : ℕ) → p < 32 * c → tap_place_of c (tap_at c p) ≡ p
  tap_there p h =
      let a = arm_of p h in
      let m = mod-lt p C in
      let e = div-add-mod' p c in
      let i : tap_at c p % 32 ≡ p / c = omega arith in
      let j : tap_at c p / 32 ≡ c - 1 - p % c = omega arith in
      ap (λ (k : ℕ). k * c + (c - 1 - tap_at c p / 32)) i ∙ ap (λ (k : ℕ). p / c * c + (c - 1 - k)) j ∙ (let f : p / c * c + (c - 1 - (c - 1 - p % c)) ≡ p = omega arith in f)

  pub tap_in : (p : ℕ) → p < 32 * c → tap_at c p < 32 * c
  tap_in p h = let a = arm_of p h in let m = mod-lt p C in omega arith

  pub tap_only : (i p : ℕ) → i < 32 * c → tap_place_of c i ≡ p → i ≡ tap_at c p
  tap_only i p h e =
      let b : c - 1 - i / 32 < c = omega arith in
      let q : p / c ≡ i % 32 = ap (λ (k : ℕ). k / c) (sym e) ∙ digits_div (i % 32) b in
      let r : p % c ≡ c - 1 - i / 32 = ap (λ (k : ℕ). k % c) (sym e) ∙ digits_mod (i % 32) b in
      let l : i / 32 < c = (div-lt_iff_lt-mul {k = 32} {x = i} {y = c} (lit< tt)).1 (let g : i < c * 32 = omega arith in g) in
      omega arith

  pub place_in : (i : ℕ) → i < 32 * c → tap_place_of c i < 32 * c
  place_in i h =
      let a : i % 32 < 32 = mod-lt i (lit< tt) in
      let l : i % 32 * c ≤ 31 * c = mul-le-mul_right c (let g : i % 32 ≤ 31 = omega arith in g) in
      omega arith

-- ---- a loop that changes each place in turn
turns_map : {A : Type 0} (g : A → A) (d : A) (n : ℕ) (l : List A) → n ≤ length l → turns (λ k m. set m k (g (slice_index_or m k d))) n l ≡ upto (λ k. g (slice_index_or l k d)) n ++ drop n l
unfolding turns upto
turns_map g d zero l h = refl
turns_map g d (suc n) l h =
    let k : n < length l = omega arith in
    let p = upto (λ k. g (slice_index_or l k d)) n in
    let e : drop n l ≡ slice_index_or l n d ∷ drop (suc n) l = drop-cons l n d k in
    ap (λ (m : List _). set m n (g (slice_index_or m n d))) (turns_map g d n l (omega arith) ∙ ap (λ (t : List _). p ++ t) e)
    ∙ ap (λ (v : _). set (p ++ slice_index_or l n d ∷ drop (suc n) l) n (g v)) (get_or_at p (slice_index_or l n d) (drop (suc n) l) d n (length_upto (λ k. g (slice_index_or l k d)) n))
    ∙ set_at p (slice_index_or l n d) (drop (suc n) l) (g (slice_index_or l n d)) n (length_upto (λ k. g (slice_index_or l k d)) n)
    ∙ sym (append_assoc p (g (slice_index_or l n d) ∷ []) (drop (suc n) l))

-- ---- the taps before the division
module _ (ω : Float) (c : ℕ) (C : 0 < c) (table : List Float) (room : 32 * c ≤ length table) where
  raw_length : length (raw_of ω c table) ≡ length table
  unfolding raw_of
  raw_length = turns_length (raw_turn ω c) (32 * c) table (λ k m. length-set m (tap_place_of c k) (raw_tap_of ω (32 * c) k))

  raw_at : (p : ℕ) → p < 32 * c → slice_index_or (raw_of ω c table) p nan ≡ raw_tap_of ω (32 * c) (tap_at c p)
  unfolding raw_of
  raw_at p h =
      turns_at (raw_turn ω c) (tap_at c p) (32 * c) table p nan (raw_tap_of ω (32 * c) (tap_at c p)) (tap_in c C p h)
      (λ m e. ap (λ (k : ℕ). get_or (slice_set m k (raw_tap_of ω (32 * c) (tap_at c p))) p nan) (tap_there c C p h) ∙ get_or-set_same m p (raw_tap_of ω (32 * c) (tap_at c p)) nan (rw e (omega arith)))
      (λ k m. length-set m (tap_place_of c k) (raw_tap_of ω (32 * c) k))
      (λ k m a b. get_or-set_other m (tap_place_of c k) p (raw_tap_of ω (32 * c) k) nan (λ e. let i = tap_only c C k p b (sym e) in omega arith))

  raw_rest : (p : ℕ) → 32 * c ≤ p → slice_index_or (raw_of ω c table) p nan ≡ slice_index_or table p nan
  unfolding raw_of turns
  raw_rest p h =
      turns_keep (raw_turn ω c) 0 (32 * c) table p nan (omega arith)
      (λ k m a b. get_or-set_other m (tap_place_of c k) p (raw_tap_of ω (32 * c) k) nan (λ e. let i = place_in c C k b in omega arith))

  -- past the 32 c places nothing is written
  raw_drop : drop (32 * c) (raw_of ω c table) ≡ drop (32 * c) table
  raw_drop =
      ext_get_or nan (drop (32 * c) (raw_of ω c table)) (drop (32 * c) table)
      (length-drop (32 * c) (raw_of ω c table) ∙ ap (λ (n : ℕ). n - 32 * c) raw_length ∙ sym (length-drop (32 * c) table))
      (λ i h. get_or-drop (32 * c) (raw_of ω c table) i nan ∙ raw_rest (32 * c + i) (omega arith) ∙ sym (get_or-drop (32 * c) table i nan))

-- ---- and after it
-- THE LAW: the two loops write the table of the rate, and only its 32 c places
pub written_is : (c : ℕ) → 0 < c → (rate : Float) (table : List Float) → 32 * c ≤ length table
    → divided_of (convert binary32 (tap_sum (omega_of rate) (32 * c) (32 * c + 1))) (32 * c) (raw_of (omega_of rate) c table) ≡ written_of c rate table
unfolding divided_of table_of tap_of
written_is c C rate table h =
    let w = omega_of rate in
    let s = convert binary32 (tap_sum w (32 * c) (32 * c + 1)) in
    let raw = raw_of w c table in
    turns_map (over_sum s) nan (32 * c) raw (rw (raw_length w c C table h) h)
    ∙ (λ i. upto_same (λ k. over_sum s (slice_index_or raw k nan)) (λ k. over_sum s (raw_tap_of w (32 * c) (tap_at c k))) (32 * c) (λ k l. ap (over_sum s) (raw_at w c C table h k l)) i ++ raw_drop w c C table h i)

-- ---- the code's first loop: the taps and their sum at once
both_turns : (ω : Float) (c n : ℕ) (table : List Float) → turns (both_turn ω c) n (start_raw table) ≡ record { sum = turns (tap_sum_turn ω (32 * c)) n (from_bits binary64 0); table = turns (raw_turn ω c) n table }
unfolding turns
both_turns ω c zero table = refl
both_turns ω c (suc n) table = ap (both_turn ω c n) (both_turns ω c n table)

-- after the loop, one tap more for the sum
pub raw_from_lem : (ω : Float) (c : ℕ) (table : List Float) (r : Raw) (i : ℕ) (tap : Float) → r ≡ turns (both_turn ω c) i (start_raw table) → i ≤ 32 * c → 32 * c ≤ i → tap ≡ raw_tap_of ω (32 * c) (32 * c)
    → ◌≡◌ {A = Raw} (record { sum = add binary64 r.sum tap; table = r.table }) (raw_from ω c table)
unfolding raw_from tap_sum raw_of
raw_from_lem ω c table r i tap e l g te =
    let n : i ≡ 32 * c = omega arith in
    let f : r ≡ record { sum = turns (tap_sum_turn ω (32 * c)) (32 * c) (from_bits binary64 0); table = turns (raw_turn ω c) (32 * c) table } = e ∙ ap (λ (k : ℕ). turns (both_turn ω c) k (start_raw table)) n ∙ both_turns ω c (32 * c) table in
    (λ j. record { sum = add binary64 (f j).sum (te j); table = (f j).table })
    ∙ (λ j. record { sum = sym (turns_more (tap_sum_turn ω (32 * c)) (32 * c) (from_bits binary64 0)) j; table = turns (raw_turn ω c) (32 * c) table })

-- the two loops together
pub table_written : (c : ℕ) → 0 < c → (rate ω : Float) (table middle : List Float) (sum short : Float) (last : List Float) → 32 * c ≤ length table → ω ≡ omega_of rate
    → ◌≡◌ {A = Raw} (record { sum = sum; table = middle }) (raw_from ω c table) → short ≡ convert binary32 sum → last ≡ divided_of short (32 * c) middle → last ≡ written_of c rate table
unfolding raw_from
table_written c C rate ω table middle sum short last h we re se le =
    let q = re ∙ ap (λ (z : Float). raw_from z c table) we in
    le
    ∙ (λ j. divided_of ((se ∙ ap (λ (r : Raw). convert binary32 r.sum) q) j) (32 * c) (q j).table)
    ∙ written_is c C rate table h

pub raw_room : (ω : Float) (c n : ℕ) (table : List Float) (r : Raw) → r ≡ turns (both_turn ω c) n (start_raw table) → length r.table ≡ length table
raw_room ω c n table r e =
    ap (λ (t : Raw). length t.table) (e ∙ both_turns ω c n table) ∙ turns_length (raw_turn ω c) n table (λ k m. length-set m (tap_place_of c k) (raw_tap_of ω (32 * c) k))

-- one turn of the code's first loop
pub both_next : (ω : Float) (c i place : ℕ) (table : List Float) (r : Raw) (tap wide : Float) → r ≡ turns (both_turn ω c) i (start_raw table) → tap ≡ raw_tap_of ω (32 * c) i → wide ≡ tap → place ≡ tap_place_of c i
    → ◌≡◌ {A = Raw} (record { sum = add binary64 r.sum wide; table = slice_set r.table place tap }) (turns (both_turn ω c) (i + 1) (start_raw table))
both_next ω c i place table r tap wide e te we pe =
    (λ j. record { sum = add binary64 r.sum ((we ∙ te) j); table = slice_set r.table (pe j) (te j) }) ∙ turns_step (both_turn ω c) i (start_raw table) r e
