-- The decimator's theorem. From a fresh decimator every row of samples gives the raw outputs that `demanded_row` says; where the samples lie within 2 ^ 44 each output is the weighted sum itself.
-- What came more than 3d - 2 samples ago leaves nothing behind, and what a state held leaves nothing behind from the fourth output on. Assumes nothing.
use Rattle.std.specs.Prelude.{◌≡◌, ℕ, zero, suc, ◌+◌, ◌-◌, ◌*◌, ◌%◌, ◌^◌, ◌<◌, ◌≤◌, Bool, cond, List, [], ◌∷◌, ◌++◌, length, get_or, ℤ, pos, negsuc, ◌==◌, ◌≢◌, nat_eq, slice_index_or, unsigned_abs, refl, Option, Some, None}
use Rattle.std.proofs.Common.{mod-eq_of_lt, le_trans, lt_of_le_of_lt, mul-le-mul, mul-le-mul_right, le_refl, arith, sym, ap, ◌∙◌, subst, ⊎_elim, lit<, length-append, get_or-append-add, ne_eqb, le-leb}
use Rattle.std.proofs.Math.Nat.{le-suc}
use Rattle.std.specs.Int.Signed.{mag}
use Rattle.std.proofs.lemmas.Bool.{lt-leb}
use Rattle.laws.specs.Places.{upto_is}
use Rattle.laws.specs.Ring.{lt_or_ge}
use Rattle.decimator.specs.declared.Counts.{Counts}
use Rattle.decimator.specs.declared.Decimator.{Decimator}
use Rattle.decimator.specs.Decimator.{fresh_of, advanced_of, raw_outputs_of}
use Rattle.decimator.specs.Demand.{sum_z, weighted, wrapped, no_counts, ago, sums_at, demanded, demanded_row}
use Rattle.decimator.proofs.Boxes.{triple, weighted_is, weighted_same}
use Rattle.decimator.proofs.Residues.{nat_abs_add, wrapped_id}
use Rattle.decimator.specs.Past.{past, past_at, past_before}
use Rattle.decimator.proofs.Part.{kept_fresh, Words, oldest, middle, latest, kept_any}
use Rattle.decimator.proofs.Rows.{Holds, said, expected, raw_output_at}

-- ---- THE THEOREM: from fresh, the raw outputs of every row are those demanded
raw_outputs_length : (s : Decimator) (xs : List Counts) → length (raw_outputs_of s xs) ≡ length xs
unfolding raw_outputs_of
raw_outputs_length s [] = refl
raw_outputs_length s (x ∷ xs) = ap suc (raw_outputs_length (advanced_of s x).decimator xs)

holds_fresh : (d : ℕ) → 0 < d → Holds d 3 [] (fresh_of d)
unfolding fresh_of
holds_fresh d D = record { by = refl; early = D; real_part = kept_fresh d; imaginary_part = kept_fresh d }

past_ago : (xs : List Counts) (n a : ℕ) → n < length xs → slice_index_or (past [] xs n) a no_counts ≡ ago xs n a
past_ago xs n a l =
    ⊎_elim
    (λ m. past_before no_counts [] xs n a l m ∙ ap (λ (b : Bool). cond b (slice_index_or xs (n - a) no_counts) no_counts) (sym (lt-leb a n m)))
    (λ m. past_at no_counts [] xs n a l m ∙ ap (λ (b : Bool). cond b (slice_index_or xs (n - a) no_counts) no_counts) (sym (le-leb a n m)))
    (lt_or_ge n a)

-- what a history asks for is what the row's own samples ask for, where they agree
said_row : (d : ℕ) (h xs : List Counts) (n : ℕ) → ((a : ℕ) → a < 3 * d - 2 → slice_index_or h a no_counts ≡ ago xs n a)
    → said d h ≡ Some (record { real = wrapped (sums_at d xs n).real; imaginary = wrapped (sums_at d xs n).imaginary })
unfolding said
said_row d h xs n e = λ j. Some (record {
  real = wrapped (weighted_same d (λ a. (get_or h a no_counts).real) (λ a. (ago xs n a).real) (λ a l. ap (λ (c : Counts). c.real) (e a l)) j);
  imaginary = wrapped (weighted_same d (λ a. (get_or h a no_counts).imaginary) (λ a. (ago xs n a).imaginary) (λ a l. ap (λ (c : Counts). c.imaginary) (e a l)) j);
})

first_output : (d n : ℕ) → 0 < d → (n + 1) % d ≡ 0 → d ≤ n + 1
first_output d n D e = ⊎_elim (λ l. let f : (n + 1) % d ≡ n + 1 = mod-eq_of_lt l in absurd (omega arith)) (λ l. l) (lt_or_ge (n + 1) d)

pub decimates_at : (d : ℕ) → 0 < d → (xs : List Counts) (n : ℕ) → n < length xs → slice_index_or (raw_outputs_of (fresh_of d) xs) n None ≡ demanded d xs n
unfolding demanded fresh_of
decimates_at d D xs n l =
    let e : 0 + n + 1 ≡ n + 1 = omega arith in
    raw_output_at d D xs n 3 [] (fresh_of d) (holds_fresh d D) l (λ z. let m = first_output d n D (ap (λ (t : ℕ). t % d) (sym e) ∙ z) in omega arith)
    ∙ ap (λ (t : ℕ). expected d t (past [] xs n)) e
    ∙ ap (λ (v : Option Counts). cond ((n + 1) % d == 0) v None) (said_row d (past [] xs n) xs n (λ a m. past_ago xs n a l))

pub decimates : (d : ℕ) → 0 < d → (xs : List Counts) → raw_outputs_of (fresh_of d) xs ≡ demanded_row d xs
unfolding demanded_row
decimates d D xs = upto_is (demanded d xs) (length xs) None (raw_outputs_of (fresh_of d) xs) (raw_outputs_length (fresh_of d) xs) (decimates_at d D xs)

-- the raw output demanded, case by case
abbrev pub wrapped_sums : ℕ → List Counts → ℕ → Counts
wrapped_sums d xs n = record { real = wrapped (sums_at d xs n).real; imaginary = wrapped (sums_at d xs n).imaginary }

pub demanded_sum : (d : ℕ) (xs : List Counts) (n : ℕ) → (n + 1) % d ≡ 0 → demanded d xs n ≡ Some (wrapped_sums d xs n)
unfolding demanded
demanded_sum d xs n e = ap (λ (b : Bool). cond b (Some (wrapped_sums d xs n)) None) (ap (λ (r : ℕ). nat_eq r 0) e)

pub demanded_silent : (d : ℕ) (xs : List Counts) (n : ℕ) → ((n + 1) % d ≢ 0) → demanded d xs n ≡ None
unfolding demanded
demanded_silent d xs n e = ap (λ (b : Bool). cond b (Some (wrapped_sums d xs n)) None) (ne_eqb ((n + 1) % d) 0 e)

-- ---- where it is exact: no sum of samples within 2 ^ 44 leaves the 64 bits
sum_within : (n B : ℕ) (f : ℕ → ℤ) → ((i : ℕ) → i < n → unsigned_abs (f i) ≤ B) → unsigned_abs (sum_z n f) ≤ n * B
unfolding sum_z
sum_within zero B f h = omega arith
sum_within (suc n) B f h =
    let r = sum_within n B f (λ i l. h i (le_trans l (le-suc n))) in
    let t = h n (le_refl (suc n)) in
    let a = nat_abs_add (sum_z n f) (f n) in
    omega arith

within : (d i j k : ℕ) → i < d → j < d → k < d → i + j + k < 3 * d - 2
within d i j k a b c = omega arith

triple_within : (d B : ℕ) (F : ℕ → ℤ) → ((a : ℕ) → a < 3 * d - 2 → unsigned_abs (F a) ≤ B) → unsigned_abs (triple d F) ≤ d * (d * (d * B))
unfolding triple
triple_within d B F h =
    sum_within d (d * (d * B)) (λ i. sum_z d (λ j. sum_z d (λ k. F (i + j + k)))) (λ i li.
    sum_within d (d * B) (λ j. sum_z d (λ k. F (i + j + k))) (λ j lj.
    sum_within d B (λ k. F (i + j + k)) (λ k lk. h (i + j + k) (within d i j k li lj lk))))

mag_le : (z : ℤ) → mag z ≤ unsigned_abs z
mag_le (pos n) = le_refl n
mag_le (negsuc n) = le-suc n

pub exact : (d : ℕ) → d ≤ 78 → (sample : ℕ → ℤ) → ((a : ℕ) → a < 3 * d - 2 → unsigned_abs (sample a) ≤ 2 ^ 44) → wrapped (weighted d sample) ≡ weighted d sample
exact d D F k =
    let b : unsigned_abs (weighted d F) ≤ d * (d * (d * 2 ^ 44)) = subst (λ (z : ℤ). unsigned_abs z ≤ d * (d * (d * 2 ^ 44))) (sym (weighted_is d F)) (triple_within d (2 ^ 44) F k) in
    let c : d * (d * (d * 2 ^ 44)) ≤ 78 * (78 * (78 * 2 ^ 44)) = mul-le-mul D (mul-le-mul D (mul-le-mul_right (2 ^ 44) D)) in
    wrapped_id (weighted d F) (lt_of_le_of_lt (mag_le (weighted d F)) (lt_of_le_of_lt (le_trans b c) (lit< tt)))

-- a sample within 2 ^ 44 in both parts
pub record Within (c : Counts) : Type 0 where
  pub real_part : unsigned_abs c.real ≤ 2 ^ 44
  pub imaginary_part : unsigned_abs c.imaginary ≤ 2 ^ 44

pub decimates_exactly : (d : ℕ) → 0 < d → d ≤ 78 → (xs : List Counts) (n : ℕ) → n < length xs → (n + 1) % d ≡ 0 → ((a : ℕ) → a < 3 * d - 2 → Within (ago xs n a))
    → slice_index_or (raw_outputs_of (fresh_of d) xs) n None ≡ Some (sums_at d xs n)
decimates_exactly d D D78 xs n l e k =
    decimates_at d D xs n l
    ∙ demanded_sum d xs n e
    ∙ (λ j. Some (record { real = exact d D78 (λ a. (ago xs n a).real) (λ a m. (k a m).real_part) j; imaginary = exact d D78 (λ a. (ago xs n a).imaginary) (λ a m. (k a m).imaginary_part) j }))

-- ---- forgetting: rows that agree on the latest 3d - 2 samples have the same raw output there, whatever came before
agree : (d : ℕ) (xs ys : List Counts) (n m : ℕ) → (n + 1) % d ≡ (m + 1) % d → ((a : ℕ) → a < 3 * d - 2 → ago xs n a ≡ ago ys m a) → demanded d xs n ≡ demanded d ys m
unfolding demanded
agree d xs ys n m e k = λ j. cond (e j == 0) (Some (record {
  real = wrapped (weighted_same d (λ a. (ago xs n a).real) (λ a. (ago ys m a).real) (λ a l. ap (λ (c : Counts). c.real) (k a l)) j);
  imaginary = wrapped (weighted_same d (λ a. (ago xs n a).imaginary) (λ a. (ago ys m a).imaginary) (λ a l. ap (λ (c : Counts). c.imaginary) (k a l)) j);
})) None

ago_latest : (before latest : List Counts) (n a : ℕ) → a ≤ n → ago (before ++ latest) (length before + n) a ≡ slice_index_or latest (n - a) no_counts
ago_latest before latest n a h =
    let e : length before + n - a ≡ length before + (n - a) = omega arith in
    ap (λ (b : Bool). cond b (slice_index_or (before ++ latest) (length before + n - a) no_counts) no_counts) (le-leb a (length before + n) (omega arith))
    ∙ ap (λ (i : ℕ). get_or (before ++ latest) i no_counts) e
    ∙ get_or-append-add before latest (n - a) no_counts

pub forgets_at : (d : ℕ) → 0 < d → (xs ys : List Counts) (n : ℕ) → n < length xs → n < length ys → ((a : ℕ) → a < 3 * d - 2 → ago xs n a ≡ ago ys n a)
    → slice_index_or (raw_outputs_of (fresh_of d) xs) n None ≡ slice_index_or (raw_outputs_of (fresh_of d) ys) n None
forgets_at d D xs ys n l m k = decimates_at d D xs n l ∙ agree d xs ys n n refl k ∙ sym (decimates_at d D ys n m)

pub forgets : (d : ℕ) → 0 < d → (before earlier latest : List Counts) → length before ≡ length earlier → (n : ℕ) → 3 * d - 2 ≤ n + 1 → n < length latest
    → slice_index_or (raw_outputs_of (fresh_of d) (before ++ latest)) (length before + n) None ≡ slice_index_or (raw_outputs_of (fresh_of d) (earlier ++ latest)) (length earlier + n) None
forgets d D before earlier latest e n h l =
    decimates_at d D (before ++ latest) (length before + n) (simp length-append (omega arith))
    ∙ agree d (before ++ latest) (earlier ++ latest) (length before + n) (length earlier + n) (ap (λ (k : ℕ). (k + n + 1) % d) e)
    (λ a m. ago_latest before latest n a (omega arith) ∙ sym (ago_latest earlier latest n a (omega arith)))
    ∙ sym (decimates_at d D (earlier ++ latest) (length earlier + n) (simp length-append (omega arith)))

-- ---- and so is what a state holds: from the fourth output on the raw outputs of every state are those of the row alone
pub recovers : (s : Decimator) → Words s.integrators.real → Words s.integrators.imaginary → s.counter < s.decimation
    → (xs : List Counts) (n : ℕ) → n < length xs → 4 * s.decimation ≤ s.counter + n + 1
    → slice_index_or (raw_outputs_of s xs) n None
    ≡ cond ((s.counter + n + 1) % s.decimation == 0) (Some (record { real = wrapped (sums_at s.decimation xs n).real; imaginary = wrapped (sums_at s.decimation xs n).imaginary })) None
recovers s R I c xs n l h =
    let d = s.decimation in
    let x = s.integrators.real in
    let y = s.integrators.imaginary in
    let past₃ : List Counts = record { real = latest x; imaginary = latest y } ∷ record { real = middle x; imaginary = middle y } ∷ record { real = oldest x; imaginary = oldest y } ∷ [] in
    raw_output_at d (omega arith) xs n 0 past₃ s
    (record { by = refl; early = c; real_part = kept_any x d s.counter s.combs.real R; imaginary_part = kept_any y d s.counter s.combs.imaginary I }) l (λ e. omega arith)
    ∙ ap (λ (v : Option Counts). cond ((s.counter + n + 1) % d == 0) v None)
    (said_row d (past past₃ xs n) xs n (λ a m. past_at no_counts past₃ xs n a l (omega arith) ∙ ap (λ (b : Bool). cond b (slice_index_or xs (n - a) no_counts) no_counts) (sym (le-leb a n (omega arith)))))
