-- The tables' rules: the taps' symmetry, by one test over the whole table that antt computes, and the derivatives' formula, which `both_tables` tests against the literals. Assumes nothing.
use Rattle.std.specs.Prelude.{ℕ, zero, suc, ◌-◌, ◌<◌, ◌≡◌, refl, length, get_or, Float}
use Rattle.std.proofs.Common.{le_of_suc-le-suc, not-suc-le-zero, arith, sym, ap, ◌∙◌, ⊎_elim, length-append}
use mathlib.Core.List.{List, [], ◌∷◌, ◌++◌, map, reverse, reverse-cons}
use Rattle.std.proofs.lemmas.List.{length-reverse, get_or_at}
use Rattle.std.proofs.Math.ListN.{get_or-append}
use Rattle.std.specs.Float.{nan, binary32}
use Rattle.std.specs.Float.Ieee.{of_bits, add, sub, mul, div}
use Rattle.numbers.specs.Numbers.{abs_of}
use Rattle.laws.specs.Places.{le_or}
use Rattle.taps.specs.TapBits.{tap_bits, factor_bits}
use Rattle.taps.specs.Taps.{tap_table, derivative_table, both_tables, differences_of, sizes_of, factor_of, derivatives_of}
use Rattle.taps.specs.declared.Tables.{Tables}

pub tap_count : length tap_table ≡ 1025
unfolding tap_table tap_bits
tap_count = refl

-- ---- SYMMETRY: the table reads the same from both ends
pub reversed : reverse tap_table ≡ tap_table
unfolding tap_table tap_bits
reversed = refl

get_d_reverse : {A : Type 0} (l : List A) (k : ℕ) (d : A) → k < length l → get_or (reverse l) k d ≡ get_or l (length l - 1 - k) d
get_d_reverse [] k d h = absurd (not-suc-le-zero h)
get_d_reverse (x ∷ l) k d h =
    ⊎_elim
    (λ m.
    let i : k < length (reverse l) = rw length-reverse m in
    let e : suc (length l) - 1 - k ≡ suc (length l - 1 - k) = omega arith in
    rw (reverse-cons, get_or-append (reverse l) (x ∷ []) d k i, e) (get_d_reverse l k d m))
    (λ q.
    let e : suc (length l) - 1 - k ≡ 0 = omega arith in
    rw (reverse-cons, e, get_or_at (reverse l) x [] d k (length-reverse l ∙ sym q)))
    (le_or k (length l) (le_of_suc-le-suc h))

pub symmetric : (k : ℕ) → k < 1025 → get_or tap_table k nan ≡ get_or tap_table (1024 - k) nan
symmetric k h =
    let g : k < length tap_table = rw tap_count h in
    let e : length tap_table - 1 - k ≡ 1024 - k = rw tap_count (omega arith) in
    ap (λ (l : List Float). get_or l k nan) (sym reversed) ∙ get_d_reverse tap_table k nan g ∙ ap (λ (n : ℕ). get_or tap_table n nan) e

-- ---- the derivatives' factor
pub factor : factor_of tap_table ≡ of_bits binary32 factor_bits
unfolding factor_of sizes_of differences_of tap_table tap_bits factor_bits abs_of add sub div of_bits
factor = refl

-- what both tables are, the factor given
pub both_with : (t : Tables) → t ≡ record { taps = tap_table; derivatives = derivatives_of (of_bits binary32 factor_bits) tap_table } → t ≡ both_tables
unfolding both_tables derivative_table
both_with t e = e ∙ ap (λ (x : Float). record { taps = tap_table; derivatives = derivatives_of x tap_table }) (sym factor)

-- ---- the derivatives' formula, by place: the difference across the tap k + 1, times the factor
differences_at : (l : List Float) (k : ℕ) → suc (suc k) < length l → (k < length (differences_of l)) × (get_or (differences_of l) k nan ≡ sub binary32 (get_or l (suc (suc k)) nan) (get_or l k nan))
unfolding differences_of
differences_at [] k h = absurd (not-suc-le-zero h)
differences_at (a ∷ []) k h = absurd (not-suc-le-zero (le_of_suc-le-suc h))
differences_at (a ∷ m ∷ []) k h = absurd (not-suc-le-zero (le_of_suc-le-suc (le_of_suc-le-suc h)))
differences_at (a ∷ m ∷ b ∷ l) zero h = (omega arith, refl)
differences_at (a ∷ m ∷ b ∷ l) (suc k) h = let r = differences_at (m ∷ b ∷ l) k (le_of_suc-le-suc h) in let i = r.0 in (omega arith, r.1)

get_d_map : {A B : Type 0} (f : A → B) (l : List A) (k : ℕ) (d : A) (e : B) → k < length l → get_or (map f l) k e ≡ f (get_or l k d)
get_d_map f [] k d e h = absurd (not-suc-le-zero h)
get_d_map f (x ∷ l) zero d e h = refl
get_d_map f (x ∷ l) (suc k) d e h = get_d_map f l k d e (le_of_suc-le-suc h)

pub derivative_at : (k : ℕ) → k < 1023 → get_or derivative_table (suc k) nan ≡ mul binary32 (sub binary32 (get_or tap_table (suc (suc k)) nan) (get_or tap_table k nan)) (factor_of tap_table)
unfolding derivatives_of derivative_table
derivative_at k h =
    let z : Float = of_bits binary32 0 in
    let f : Float = factor_of tap_table in
    let g : suc (suc k) < length tap_table = rw tap_count (omega arith) in
    let r = differences_at tap_table k g in
    let i = r.0 in
    let j : suc k < length (z ∷ (differences_of tap_table ++ (z ∷ []))) = simp length-append (omega arith) in
    get_d_map (λ (d : Float). mul binary32 d f) (z ∷ (differences_of tap_table ++ (z ∷ []))) (suc k) nan nan j
    ∙ ap (λ (d : Float). mul binary32 d f) (get_or-append (differences_of tap_table) (z ∷ []) nan k i ∙ r.1)
