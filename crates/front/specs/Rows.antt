-- A call's row holds the values that the definition makes of its samples, in order: so calls one after the other, their rows read in turn, make the values of all the samples. Assumes nothing.
use Prim.Native.Nat.{ℕ, zero, suc, ◌+◌, ◌-◌, ◌*◌, ◌/◌, ◌≤◌, ◌<◌}
use native.Mathlib.Omega.{arith}
use Rattle.std.specs.Prelude.{◌≡◌, Bool, ltb, length, get_or, set, Float}
use Rattle.std.proofs.Math.Path.{refl, sym, ap, subst}
use Rattle.std.proofs.Common.{◌∙◌, length-set, get_or-set_same, get_or-set_other}
use Rattle.std.proofs.Math.Bool.{true, false}
use mathlib.Core.List.{List, [], ◌∷◌, ◌++◌, append_assoc, append-nil, map}
use Rattle.std.proofs.lemmas.List.Edits.{sets}
use Rattle.std.proofs.Math.Seq.{length-sets}
use Rattle.std.specs.Float.{nan}
use borrow.Author.Tests.{ltb-true, ltb-false}
use Rattle.laws.specs.Turns.{turns, until, turns_step}
use Rattle.laws.specs.Places.{upto}
use Rattle.complex.specs.declared.Complex32.{Complex32}
use Rattle.front.specs.Front.{sample_at, Run, front_step, more, front_turn, front_of, real_of, imaginary_of, laid_of, Front, took_of, is_full, filled_of, rowed}
use Rattle.front.specs.Steps.{values_two}

-- ---- a row read as a list
rowed_set : (xs ys : List Float) (i n : ℕ) (a b : Float) → n ≤ i → rowed (set xs i a) (set ys i b) n ≡ rowed xs ys n
unfolding rowed upto
rowed_set xs ys i zero a b h = refl
rowed_set xs ys i (suc n) a b h =
    let e : get_or (set xs i a) n nan ≡ get_or xs n nan = get_or-set_other xs i n a nan (λ e. omega arith) in
    let f : get_or (set ys i b) n nan ≡ get_or ys n nan = get_or-set_other ys i n b nan (λ e. omega arith) in
    (λ j. rowed_set xs ys i n a b (omega arith) j ++ (record { real = e j; imaginary = f j } ∷ []))

rowed_push : (xs ys : List Float) (n : ℕ) (z : Complex32) → n < length xs → n < length ys → rowed (set xs n z.real) (set ys n z.imaginary) (suc n) ≡ rowed xs ys n ++ (z ∷ [])
unfolding rowed upto
rowed_push xs ys n z h k =
    let e : get_or (set xs n z.real) n nan ≡ z.real = get_or-set_same xs n z.real nan h in
    let f : get_or (set ys n z.imaginary) n nan ≡ z.imaginary = get_or-set_same ys n z.imaginary nan k in
    (λ j. rowed_set xs ys n n z.real z.imaginary (omega arith) j ++ (record { real = e j; imaginary = f j } ∷ []))

pub rowed_sets : (zs : List Complex32) (xs ys : List Float) (m : ℕ) → m + length zs ≤ length xs → m + length zs ≤ length ys
    → rowed (sets xs m (map real_of zs)) (sets ys m (map imaginary_of zs)) (m + length zs) ≡ rowed xs ys m ++ zs
rowed_sets [] xs ys m h k = let e : m + 0 ≡ m = omega arith in ap (rowed xs ys) e ∙ sym (append-nil (rowed xs ys m))
rowed_sets (z ∷ zs) xs ys m h k =
    let e : m + suc (length zs) ≡ suc m + length zs = omega arith in
    let lx : length (set xs m z.real) ≡ length xs = length-set xs m z.real in
    let ly : length (set ys m z.imaginary) ≡ length ys = length-set ys m z.imaginary in
    ap (rowed (sets (set xs m z.real) (suc m) (map real_of zs)) (sets (set ys m z.imaginary) (suc m) (map imaginary_of zs))) e
    ∙ rowed_sets zs (set xs m z.real) (set ys m z.imaginary) (suc m) (omega arith) (omega arith)
    ∙ ap (λ (l : List Complex32). l ++ zs) (rowed_push xs ys m z (omega arith) (omega arith))
    ∙ append_assoc (rowed xs ys m) (z ∷ []) zs

-- a row of 256 places
pub record Roomy (f : Front) : Type 0 where
  pub real : length f.row.real ≡ 256
  pub imaginary : length f.row.imaginary ≡ 256
  pub made : f.row.made ≤ 256

-- the values before this row, and those in it
abbrev pub seen : List Complex32 → Front → Run
seen vs f = record { rung = f.rung; values = vs ++ rowed f.row.real f.row.imaginary f.row.made }

module _ (conjugated : Bool) (table xs : List Float) where
  abbrev took : Front → Front
  took = took_of conjugated table xs

  abbrev given : Front → List Complex32
  given f = (front_step conjugated table f.rung (sample_at xs f.at)).values

  roomy_took : (f : Front) → Roomy f → f.row.made ≤ 254 → Roomy (took f)
  unfolding took_of laid_of
  roomy_took f r l =
      let two = values_two conjugated table f.rung (sample_at xs f.at) in record {
        real = length-sets f.row.real f.row.made (map real_of (given f)) ∙ r.real;
        imaginary = length-sets f.row.imaginary f.row.made (map imaginary_of (given f)) ∙ r.imaginary;
        made = omega arith;
      }

  seen_took : (vs : List Complex32) (f : Front) → Roomy f → f.row.made ≤ 254 → seen vs (took f) ≡ more conjugated table (seen vs f) (sample_at xs f.at)
  unfolding took_of laid_of more
  seen_took vs f r l =
      let two = values_two conjugated table f.rung (sample_at xs f.at) in
      let a = r.real in
      let b = r.imaginary in
      let e = rowed_sets (given f) f.row.real f.row.imaginary f.row.made (omega arith) (omega arith) in
      λ j. record {
        rung = (front_step conjugated table f.rung (sample_at xs f.at)).rung;
        values = (ap (λ (l : List Complex32). vs ++ l) e ∙ sym (append_assoc vs (rowed f.row.real f.row.imaginary f.row.made) (given f))) j;
      }

  -- what a call leaves: the row's values after those before it, and how far it came
  pub record Filled (vs : List Complex32) (h : Run) (n : ℕ) (f g : Front) : Type 0 where
    pub values : seen vs g ≡ front_of conjugated table xs g.at h
    pub low : f.at ≤ g.at
    pub high : g.at ≤ f.at + n
    pub further : 0 < n → f.row.made ≤ 254 → f.at < g.at
    pub roomy : Roomy g
    pub few : g.row.made + 2 * f.at ≤ f.row.made + 2 * g.at

  same : (vs : List Complex32) (h : Run) (n : ℕ) (f : Front) → Roomy f → seen vs f ≡ front_of conjugated table xs f.at h → (0 < n → f.row.made ≤ 254 → ⊥) → Filled vs h n f f
  same vs h n f r e never = record { values = e; low = omega arith; high = omega arith; further = λ l k. absurd (never l k); roomy = r; few = omega arith }

  at_took : (f : Front) → (took f).at ≡ f.at + 1
  unfolding took_of
  at_took f = refl

  made_took : (f : Front) → (took f).row.made ≤ f.row.made + 2
  unfolding took_of laid_of
  made_took f = let two = values_two conjugated table f.rung (sample_at xs f.at) in omega arith

  next : (vs : List Complex32) (h : Run) (n : ℕ) (f g : Front) → Filled vs h n (took f) g → Filled vs h (suc n) f g
  next vs h n f g r =
      let u = at_took f in
      let m = made_took f in
      let a = r.low in
      let b = r.high in
      let c = r.few in
      record { values = r.values; low = omega arith; high = omega arith; further = λ l k. omega arith; roomy = r.roomy; few = omega arith }

  seen_on : (vs : List Complex32) (h : Run) (f : Front) → Roomy f → f.row.made ≤ 254 → seen vs f ≡ front_of conjugated table xs f.at h → seen vs (took f) ≡ front_of conjugated table xs (took f).at h
  unfolding front_of
  seen_on vs h f r l e =
      seen_took vs f r l
      ∙ turns_step (front_turn conjugated table xs) f.at h (seen vs f) e
      ∙ ap (λ (k : ℕ). turns (front_turn conjugated table xs) k h) (sym (at_took f))

  cases : (b : Bool) (vs : List Complex32) (h : Run) (n : ℕ) (f : Front) → ltb 254 f.row.made ≡ b → Roomy f → seen vs f ≡ front_of conjugated table xs f.at h
      → (Roomy (took f) → seen vs (took f) ≡ front_of conjugated table xs (took f).at h → Filled vs h n (took f) (until is_full took n (took f)))
      → Filled vs h (suc n) f (until is_full took (suc n) f)
  unfolding until
  cases true vs h n f b r e rest = rw b (same vs h (suc n) f r e (λ l k. (let t = ltb-true 254 f.row.made b in omega arith)))
  cases false vs h n f b r e rest =
      let l = ltb-false 254 f.row.made b in
      rw b (next vs h n f (until is_full took n (took f)) (rest (roomy_took f r l) (seen_on vs h f r l e)))

  fills : (vs : List Complex32) (h : Run) (n : ℕ) (f : Front) → Roomy f → seen vs f ≡ front_of conjugated table xs f.at h → Filled vs h n f (until is_full took n f)
  unfolding until
  fills vs h zero f r e = same vs h zero f r e (λ l k. omega arith)
  fills vs h (suc n) f r e = cases (ltb 254 f.row.made) vs h n f refl r e (fills vs h n (took f))

  -- THE LAW: a call that starts with an empty row, the front being that of the samples before
  pub filled : (h : Run) (f g : Front) → g ≡ filled_of conjugated table xs f → f.row.made ≡ 0 → length f.row.real ≡ 256 → length f.row.imaginary ≡ 256
      → f.rung ≡ (front_of conjugated table xs f.at h).rung → Filled (front_of conjugated table xs f.at h).values h (length xs / 2 - f.at) f g
  unfolding filled_of rowed upto
  filled h f g e m lr li i =
      let z : f.row.made ≤ 256 = omega arith in
      let vs = (front_of conjugated table xs f.at h).values in
      subst (λ (t : Front). Filled vs h (length xs / 2 - f.at) f t) (sym e)
      (fills vs h (length xs / 2 - f.at) f (record { real = lr; imaginary = li; made = z })
      ((λ j. record { rung = i j; values = vs ++ rowed f.row.real f.row.imaginary (m j) })
      ∙ (λ j. record { rung = (front_of conjugated table xs f.at h).rung; values = append-nil vs j })))
