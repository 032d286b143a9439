-- What stands in a divided row, and that rows one after the other are a run. Assumes nothing.
use Rattle.std.specs.Prelude.{◌≡◌, ℕ, ◌+◌, ◌<◌, ◌≤◌, ◌≢◌, List, length, get_or, slice_index_or, slice_set, Float}
use Rattle.std.proofs.Common.{sym, ap, ap₂, ◌∙◌, subst, arith, length-set, get_or-set_same, get_or-set_other}
use Rattle.std.specs.Float.{nan, binary64}
use Rattle.std.specs.Float.Ieee.{add}
use denote.Floats.{passes}
use Rattle.laws.specs.Turns.{turns, turns_none, turns_step, turns_plus, turns_same}
use Rattle.laws.specs.Places.{turns_length, turns_keep, turns_at, skip2}
use Rattle.signal.specs.Signal.{error_at}
use Rattle.signal.specs.Plain.{is_plain, Usual, PlainRun, PlainAmplitude, error_from, sum_step, write_step, run_of}
use Rattle.signal.specs.Rows.{UsualRow, point_put, quotient_at, divide_turn, error_turn, point_turn}
use Rattle.signal.proofs.Quotients.{usual_quotient}

-- what lies within a run of plain parts is plain
pub plain_within : (re im : List Float) (from n p m q : ℕ) → PlainRun re im from n → q ≡ from + p → p + m ≤ n → PlainRun re im q m
plain_within re im from n p m q P e inside = record {
  real = λ k l. ap (λ (i : ℕ). is_plain (slice_index_or re i nan)) (place k) ∙ P.real (p + k) (omega arith);
  imaginary = λ k l. ap (λ (i : ℕ). is_plain (slice_index_or im i nan)) (place k) ∙ P.imaginary (p + k) (omega arith);
}
  where
    place : (k : ℕ) → q + k ≡ from + (p + k)
    place k = omega arith

-- one turn more over a row
pub row_turn : (row : List Float) (k done : ℕ) (s t u : Float) (l m o : List Float) → t ≡ turns (error_turn row) k s → m ≡ turns (point_turn row done) k l
    → u ≡ error_turn row k t → o ≡ point_turn row done k m → (u ≡ turns (error_turn row) (k + 1) s) × (o ≡ turns (point_turn row done) (k + 1) l)
row_turn row k done s t u l m o T M U O = (U ∙ turns_step (error_turn row) k s t T, O ∙ turns_step (point_turn row done) k l m M)

-- ---- the quotients of n points stand in a row
pub record Divided (re im : List Float) (a : Float) (from n : ℕ) (row : List Float) : Type 0 where
  pub size : length row ≡ 64
  pub real : (k : ℕ) → k < n → slice_index_or row k nan ≡ quotient_at re a from k
  pub imaginary : (k : ℕ) → k < n → slice_index_or row (32 + k) nan ≡ quotient_at im a from k

module _ (re im : List Float) (a : Float) (from : ℕ) where
  abbrev x : ℕ → Float
  x = quotient_at re a from

  abbrev y : ℕ → Float
  y = quotient_at im a from

  abbrev turn : ℕ → List Float → List Float
  turn = divide_turn re im a from

  turn_length : (k : ℕ) (m : List Float) → length (turn k m) ≡ length m
  turn_length k m = length-set (slice_set m k (x k)) (32 + k) (y k) ∙ length-set m k (x k)

  pub divided : (n : ℕ) (l row : List Float) → n ≤ 32 → length l ≡ 64 → row ≡ turns turn n l → Divided re im a from n row
  divided n l row few e h = record {
    size = ap length h ∙ turns_length turn n l turn_length ∙ e;
    real = λ k i. ap (λ (z : List Float). get_or z k nan) h
        ∙ turns_at turn k n l k nan (x k) i
        (λ m o. get_or-set_other (slice_set m k (x k)) (32 + k) k (y k) nan (λ z. omega arith) ∙ get_or-set_same m k (x k) nan (omega arith))
        turn_length
        (λ j m p q. skip2 m j (32 + j) (x j) (y j) k nan (λ z. omega arith) (λ z. omega arith));
    imaginary = λ k i. ap (λ (z : List Float). get_or z (32 + k) nan) h
        ∙ turns_at turn k n l (32 + k) nan (y k) i
        (λ m o. let s : length (slice_set m k (x k)) ≡ length m = length-set m k (x k) in get_or-set_same (slice_set m k (x k)) (32 + k) (y k) nan (omega arith))
        turn_length
        (λ j m p q. skip2 m j (32 + j) (x j) (y j) (32 + k) nan (λ z. omega arith) (λ z. omega arith));
  }

  -- a place that the turns before k leave alone
  ahead : (k : ℕ) (l row : List Float) → row ≡ turns turn k l → (j : ℕ) → ((i : ℕ) → i < k → j ≢ i) → ((i : ℕ) → i < k → j ≢ 32 + i) → slice_index_or row j nan ≡ slice_index_or l j nan
  ahead k l row h j p q =
      ap (λ (z : List Float). get_or z j nan) h
      ∙ turns_keep turn 0 k l j nan (omega arith) (λ i m s t. skip2 m i (32 + i) (x i) (y i) j nan (p i t) (q i t))
      ∙ ap (λ (z : List Float). get_or z j nan) (turns_none turn l)

  module _ (k : ℕ) (l row : List Float) (is_row : row ≡ turns turn k l) (inside : k < 32) where
    across_ahead : get_or row k nan ≡ slice_index_or l k nan
    across_ahead = ahead k l row is_row k (λ i h e. omega arith) (λ i h e. omega arith)

    up_ahead : get_or row (32 + k) nan ≡ slice_index_or l (32 + k) nan
    up_ahead = ahead k l row is_row (32 + k) (λ i h e. omega arith) (λ i h e. omega arith)

    pub usual_ahead : UsualRow l 32 → (Usual (slice_index_or row k nan)) × (Usual (slice_index_or row (32 + k) nan))
    usual_ahead U = (subst Usual (sym across_ahead) (U.real k inside), subst Usual (sym up_ahead) (U.imaginary k inside))

    -- one turn more of the row l, which is written while another takes its places
    pub exchange_turn : (done : ℕ) (s t u : Float) (f m o : List Float) → t ≡ turns (error_turn l) k s → m ≡ turns (point_turn l done) k f
        → u ≡ error_turn row k t → o ≡ point_turn row done k m → (u ≡ turns (error_turn l) (k + 1) s) × (o ≡ turns (point_turn l done) (k + 1) f)
    exchange_turn done s t u f m o T M U O =
        row_turn l k done s t u f m o T M
        (U ∙ ap₂ (λ (x y : Float). add binary64 t (error_from x y)) across_ahead up_ahead)
        (O ∙ ap₂ (λ (x y : Float). point_put x y (done + k) m) across_ahead up_ahead)

-- fewer points of a row, at the same place
pub divided_fewer : (re im : List Float) (a : Float) (p q n m : ℕ) (row : List Float) → Divided re im a p n row → p ≡ q → m ≤ n → Divided re im a q m row
divided_fewer re im a p q n m row D e few = record {
  size = D.size;
  real = λ k l. D.real k (omega arith) ∙ ap (λ (i : ℕ). quotient_at re a i k) e;
  imaginary = λ k l. D.imaginary k (omega arith) ∙ ap (λ (i : ℕ). quotient_at im a i k) e;
}

pub divided_usual : (re im : List Float) (a : Float) (from n : ℕ) (row : List Float) → Divided re im a from n row → PlainRun re im from n → PlainAmplitude a → UsualRow row n
divided_usual re im a from n row D P A = record {
  real = λ k l. subst Usual (sym (D.real k l)) (usual_quotient (slice_index_or re (from + k) nan) a (passes _ (P.real k l)) A);
  imaginary = λ k l. subst Usual (sym (D.imaginary k l)) (usual_quotient (slice_index_or im (from + k) nan) a (passes _ (P.imaginary k l)) A);
}

-- ---- a run of p points, and then one of n points
run_on : {A : Type 0} (g : ℕ → ℕ → A → A) (from done p n q : ℕ) (a b c : A) → p + n ≡ q
    → b ≡ turns (run_of g from done) p a → c ≡ turns (run_of g (from + p) (done + p)) n b → c ≡ turns (run_of g from done) q a
run_on {A} g from done p n q a b c e h k =
    k
    ∙ ap (turns (run_of g (from + p) (done + p)) n) h
    ∙ turns_same (run_of g (from + p) (done + p)) (λ (i : ℕ). run_of g from done (p + i)) n (turns (run_of g from done) p a)
    (λ i b l. ap₂ (λ (x y : ℕ). g x y b) (further from i) (further done i))
    ∙ turns_plus (run_of g from done) p n a
    ∙ ap (λ (i : ℕ). turns (run_of g from done) i a) e
  where
    further : (x i : ℕ) → x + p + i ≡ x + (p + i)
    further x i = omega arith

-- the sum s and the floats l after p points, and then after n points more, which stand in a row
module _ (re im : List Float) (a : Float) (from done p n q : ℕ) (row : List Float) (D : Divided re im a (from + p) n row) (is_all : p + n ≡ q) where
  abbrev error_step : ℕ → ℕ → Float → Float
  error_step = sum_step re im (error_at a)

  abbrev point_step : ℕ → ℕ → List Float → List Float
  point_step = write_step re im a

  pub row_on : (s t u : Float) (l m o : List Float) → t ≡ turns (run_of error_step from done) p s → m ≡ turns (run_of point_step from done) p l
      → u ≡ turns (error_turn row) n t → o ≡ turns (point_turn row (done + p)) n m
      → (u ≡ turns (run_of error_step from done) q s) × (o ≡ turns (run_of point_step from done) q l)
  row_on s t u l m o T M U O = (
    run_on error_step from done p n q s t u is_all T
        (U ∙ turns_same (error_turn row) (run_of error_step (from + p) (done + p)) n t
        (λ k v i. ap₂ (λ (x y : Float). add binary64 v (error_from x y)) (D.real k i) (D.imaginary k i))),
    run_on point_step from done p n q l m o is_all M
        (O ∙ turns_same (point_turn row (done + p)) (run_of point_step (from + p) (done + p)) n m
        (λ k v i. ap₂ (λ (x y : Float). point_put x y (done + p + k) v) (D.real k i) (D.imaginary k i))),
  )
