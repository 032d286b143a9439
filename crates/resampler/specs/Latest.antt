-- Every output of a pass lies where the value that came in is the last that it needs, so the c values that the Rust takes, from first = position - half on, are the last c of the ring. Assumes nothing.
use Rattle.std.specs.Prelude.{◌≡◌, ℕ, zero, suc, ◌+◌, ◌-◌, ◌*◌, ◌%◌, ◌<◌, ◌≤◌, true, false, T, ℤ, refl, Float}
use Rattle.std.proofs.Common.{sym, ◌∙◌, le_of_eq, mul-one, mul-pos, zero-mul, mul-le-mul_right, lit<}
use Rattle.std.proofs.Math.Path.{ap, subst}
use Rattle.std.proofs.Math.Nat.{le_trans}
use native.Mathlib.Omega.{arith}
use Rattle.std.specs.Float.{nan, inf, fin}
use Rattle.std.specs.Float.Ieee.{binary64, round, sum, add, le, fits, up, down}
use Rattle.std.specs.Float.Ieee.Nearest.{div_mono}
use Rattle.std.specs.Float.Ieee.Scale.{finite}
use Rattle.std.specs.Float.Ieee.Positive.{den, den_pos}
use Rattle.laws.specs.Ring.{start}
use Rattle.laws.specs.FloatOrder.{plus, minus, le→, le_self, le_trans'}
use Rattle.laws.specs.FloatSums.{In, in_finite, add_in, add_mono}
use Rattle.laws.specs.FloatValues.{round_id}
use Rattle.resampler.specs.declared.pass.Resampler.{Resampler}
use Rattle.resampler.specs.Outputs.{tick, position, Sound, one_on, X₁, in₁, no_minus, NonNeg}
use Rattle.resampler.specs.Ticks.{minus_zero}
use Rattle.resampler.specs.Admitted.{f0, half, twenty, far, back}
use Rattle.resampler.specs.AdmittedLaws.{Passing, Going, on, due_few}

position_mono : (x y : Float) → T (finite x) → T (finite y) → NonNeg x → NonNeg y → T (le x y) → position x ≤ position y
unfolding position tick
position_mono x y X Y m n l =
    div_mono (tick x) 32 (tick y) 32 (lit< tt) (lit< tt)
    (mul-le-mul_right 32
    (div_mono (64 * plus x + den x) (2 * den x) (64 * plus y + den y) (2 * den y) (mul-pos {m = 2} (lit< tt) (den_pos x)) (mul-pos {m = 2} (lit< tt) (den_pos y))
    (cross (plus x) (minus x) (den x) (plus y) (minus y) (den y) m n (le→ x y X Y l))))
  where
    cross : (a m b c n d : ℕ) → m ≡ 0 → n ≡ 0 → a * d + n * b ≤ c * b + m * d → (64 * a + b) * (2 * d) ≤ (64 * c + d) * (2 * b)
    cross a m b c n d e f h =
        let p : m * d ≡ 0 = ap (λ (z : ℕ). z * d) e ∙ zero-mul d in
        let q : n * b ≡ 0 = ap (λ (z : ℕ). z * b) f ∙ zero-mul b in
        omega arith

-- ---- a step takes the next output on
same_sum : (x : Float) → In f0 far x → T (fits binary64 x) → position (add binary64 x f0) ≡ position x
same_sum nan i F = absurd (in_finite f0 far nan tt tt i)
same_sum (inf s) i F = absurd (in_finite f0 far (inf s) tt tt i)
same_sum (fin false m e) i F = ap position (plus_zero m e F)
  where
    plus_zero : (m : ℕ) (e : ℤ) → T (fits binary64 (fin false m e)) → add binary64 (fin false m e) f0 ≡ fin false m e
    plus_zero m e F = unfold add sum in
        ap (λ (n : ℕ). round binary64 false n (down e * 1)) (let g : m * up e * 1 + 0 * 1 * down e ≡ m * up e = omega arith in g)
        ∙ ap (λ (n : ℕ). round binary64 false (m * up e) n) (mul-one (down e))
        ∙ round_id binary64 false m e F
same_sum (fin true m e) i F =
    let z = minus_zero m e F (no_minus (fin true m e) tt i.lower) in
    subst (λ (x : Float). position (add binary64 x f0) ≡ position x) (sym z) (unfold add position in refl)

module _ (x s : Float) (w : Sound x s) where
  X : T (finite x)
  X = in_finite f0 far x tt tt w.range

  S : T (finite s)
  S = in_finite half twenty s tt tt w.step

  nothing_in : In f0 (add binary64 far f0) (add binary64 x f0)
  unfolding add
  nothing_in = add_in binary64 f0 far f0 f0 tt tt w.range (record { lower = unfold le in tt; upper = unfold le in tt })

  nothing_finite : T (finite (add binary64 x f0))
  unfolding add
  nothing_finite = in_finite f0 (add binary64 far f0) (add binary64 x f0) tt tt nothing_in

  on_in : T (le f0 (one_on x s))
  unfolding add le
  on_in = le_trans' f0 (add binary64 f0 half) (one_on x s) tt tt (X₁ x s w) tt (in₁ x s w).lower

  not_back : position x ≤ position (one_on x s)
  unfolding le
  not_back =
      le_trans (le_of_eq (sym (same_sum x w.range w.stored)))
      (position_mono (add binary64 x f0) (one_on x s) nothing_finite (X₁ x s w) (no_minus (add binary64 x f0) nothing_finite nothing_in.lower) (no_minus (one_on x s) (X₁ x s w) on_in)
      (add_mono binary64 x x f0 s X X tt S (le_self x X) (le_trans' f0 half s tt tt S tt w.step.lower)))

-- ---- an output that is due
module _ (q : Resampler) (p : Passing q) where
  reached : (n : ℕ) (y : Float) → Going q n y → n < 2 → q.index ≤ position y + back q
  unfolding on
  reached zero y g l = subst (λ (z : Float). q.index ≤ position z + back q) (sym g.steps) p.due_latest
  reached (suc zero) y g l =
      let b = not_back q.next q.step p.sound in
      let d = p.due_latest in
      subst (λ (z : Float). q.index ≤ position z + back q) (sym g.steps) (omega arith)
  reached (suc (suc n)) y g l = absurd (omega arith)

  pub due_now : (n : ℕ) (y : Float) → Going q n y → position y + back q ≤ q.index → position y + back q ≡ q.index
  due_now n y g due = let r = reached n y g (due_few q p n y g due) in omega arith

-- where the Rust's window starts, (write + first - index) modulo the ring's length with first = position - half, and where the last c values start
pub window_start : (q : Resampler) (at : ℕ) → q.half ≤ q.arm → at + back q ≡ q.index
    → (q.write + (q.arm + 16) - (q.index + q.half - at)) % (q.arm + 16) ≡ start nan (q.arm + 16) q.write q.arm
window_start q at h e = ap (λ (k : ℕ). (q.write + (q.arm + 16) - k) % (q.arm + 16)) (let g : q.index + q.half - at ≡ q.arm = omega arith in g)
