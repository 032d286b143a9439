-- One test of a part answers both questions for most blocks: below the upper end in size it is finite and at neither end. Assumes nothing.
use Rattle.std.specs.Prelude.{◌≡◌, refl, Bool, true, false, ◌&&◌, List, ℕ, ◌+◌, ◌*◌, ◌<◌, T, length, get_or, Float}
use Rattle.std.proofs.Common.{sym, ◌∙◌, arith}
use Rattle.std.proofs.Math.Dec.{not_T}
use Rattle.std.specs.Float.Ieee.{nan, of_bits, lt, le}
use Rattle.std.specs.Float.{inf, fin, binary32}
use Rattle.std.specs.Float.Ieee.Bits.{is_false}
use Rattle.std.specs.Float.Ieee.Scale.{finite}
use Rattle.laws.specs.Turns.{turns}
use Rattle.laws.specs.Places.{all_true, true_all}
use Rattle.laws.specs.Branches.{and_true, from_true}
use Rattle.laws.specs.FloatOrder.{lt→le, lt_clash, le_trans', between_finite}
use Rattle.numbers.specs.Numbers.{is_finite}
use Rattle.samples.specs.declared.Level.{Level}
use Rattle.samples.specs.Samples.{count_of, real_of, imaginary_of, finite_of, upper_end, lower_end, is_at_end, overload_of, measured_of}
use Rattle.samples.specs.Laws.{samples_none}

abbrev pub upper_end_negated : Float
upper_end_negated = of_bits binary32 0xbf7f_fe00  -- -32767/32768

unfoldable pub is_inside : Float → Bool
is_inside x = lt upper_end_negated x && lt x upper_end

abbrev pub inside_turn : List Float → ℕ → Bool → Bool
inside_turn xs k before = before && is_inside (get_or xs k nan)

unfoldable pub all_inside : List Float → Bool
all_inside xs = turns (inside_turn xs) (length xs) true

-- ---- one part
inside_finite : (x : Float) → is_inside x ≡ true → is_finite x ≡ true
unfolding is_inside is_finite of_bits lt
inside_finite nan h = h
inside_finite (inf true) h = h
inside_finite (inf false) h = h
inside_finite (fin s m e) h = refl

-- the ends are numbers, and the lower one is below the upper one negated
record Ends : Type 0 where
  upper : T (finite upper_end)
  lower : T (finite lower_end)
  negated : T (finite upper_end_negated)
  ordered : T (le lower_end upper_end_negated)

ends : Ends
unfolding of_bits le
ends = record { upper = tt; lower = tt; negated = tt; ordered = tt }

inside_off_ends : (x : Float) → is_inside x ≡ true → is_at_end x ≡ false
unfolding is_inside is_at_end
inside_off_ends x h =
    let p = and_true (lt upper_end_negated x) (lt x upper_end) h in
    let above = from_true (lt upper_end_negated x) p.0 in
    let below = from_true (lt x upper_end) p.1 in
    let number = between_finite upper_end_negated x upper_end ends.negated ends.upper (lt→le upper_end_negated x above) (lt→le x upper_end below) in
    let up = is_false (le upper_end x) (not_T (le upper_end x) (lt_clash x upper_end below)) in
    let down = is_false (le x lower_end) (not_T (le x lower_end) (λ l. lt_clash upper_end_negated x above (le_trans' x lower_end upper_end_negated number ends.lower ends.negated l ends.ordered))) in
    rw (up, down)

-- ---- all samples
module _ (xs : List Float) (inside : all_inside xs ≡ true) where
  each : (k : ℕ) → k < length xs → is_inside (get_or xs k nan) ≡ true
  unfolding all_inside
  each = true_all (λ (k : ℕ). is_inside (get_or xs k nan)) (length xs) inside

  inside_all_finite : finite_of xs ≡ true
  unfolding finite_of
  inside_all_finite = all_true (λ (k : ℕ). is_finite (real_of xs k) && is_finite (imaginary_of xs k)) (count_of xs) (λ k l.
      rw (inside_finite (real_of xs k) (each (2 * k) (omega arith)), inside_finite (imaginary_of xs k) (each (2 * k + 1) (omega arith))))

  inside_no_overload : overload_of xs ≡ 0
  unfolding overload_of
  inside_no_overload = samples_none is_at_end nan xs (λ k l. inside_off_ends (get_or xs k nan) (each k l))

-- ---- the ways out
pub level_inside : (xs : List Float) (b : Bool) → b ≡ all_inside xs → b ≡ true → ◌≡◌ {A = Level} (record { finite = true; overload = 0 }) (measured_of xs)
unfolding measured_of
level_inside xs b e t =
    let i = sym e ∙ t in
    rw (inside_all_finite xs i, inside_no_overload xs i)

pub level_counted : (xs : List Float) (c : ℕ) (b : Bool) → c ≡ overload_of xs → b ≡ finite_of xs → b ≡ true → ◌≡◌ {A = Level} (record { finite = true; overload = c }) (measured_of xs)
unfolding measured_of
level_counted xs c b e f t = rw (sym f ∙ t, e)

pub level_unsound : (xs : List Float) (b : Bool) → b ≡ finite_of xs → b ≡ false → ◌≡◌ {A = Level} (record { finite = false; overload = 0 }) (measured_of xs)
unfolding measured_of
level_unsound xs b f t = rw (sym f ∙ t)
