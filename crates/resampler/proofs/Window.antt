-- The last c values of a ring of c + 16 stand in one straight run or in two, and the tap sum over them goes run by run. Assumes nothing.
use Rattle.std.specs.Prelude.{◌≡◌, ℕ, ◌+◌, ◌-◌, ◌*◌, ◌%◌, ◌<◌, ◌≤◌, List, get_or, drop, slice_index_or, Float}
use Rattle.std.proofs.Math.Path.{refl, ap}
use Rattle.std.proofs.Common.{sym, ◌∙◌, mod-lt, mul-le-mul, le_of_suc-le-suc, get_or-take, get_or-drop}
use Rattle.std.proofs.Math.Nat.{mod-eq_of_lt, add-mod_left}
use native.Mathlib.Omega.{arith}
use Rattle.std.specs.Float.Ieee.{nan, add, mul}
use Rattle.std.specs.Float.{binary32}
use Rattle.laws.specs.Turns.{turns, turns_plus, turns_same}
use Rattle.laws.specs.Places.{upto_at}
use Rattle.laws.specs.Ring.{start, latest}
use Rattle.complex.specs.Complex.{zero_pair}
use Rattle.complex.specs.declared.Complex32.{Complex32}
use Rattle.resampler.specs.declared.pass.Resampler.{Resampler}
use Rattle.resampler.specs.Loops.{run_turn, run_of}
use Rattle.resampler.specs.Pass.{arm_at, sum_turn, sum_of, filtered_of}

module _ (c write : ℕ) (in_ring : write < c + 16) (table real imaginary : List Float) (phase : ℕ) where
  -- the oldest of them, by the code's two cases
  pub oldest_low : write < c → write + 16 ≡ start nan (c + 16) write c
  oldest_low h = sym (ap (λ (k : ℕ). k % (c + 16)) (let e : write + (c + 16) - c ≡ write + 16 = omega arith in e) ∙ mod-eq_of_lt (let l : write + 16 < c + 16 = omega arith in l))

  pub oldest_high : c ≤ write → write - c ≡ start nan (c + 16) write c
  oldest_high h =
      let e : write + (c + 16) - c ≡ c + 16 + (write - c) = omega arith in
      sym (ap (λ (k : ℕ). k % (c + 16)) e ∙ add-mod_left (c + 16) (write - c) ∙ mod-eq_of_lt (let l : write - c < c + 16 = omega arith in l))

  pub window_at : (plane : List Float) (i j : ℕ) → i < c → (start nan (c + 16) write c + i) % (c + 16) ≡ j → slice_index_or (latest nan (c + 16) plane write c) i nan ≡ slice_index_or plane j nan
  unfolding latest
  window_at plane i j h e = upto_at (λ k. get_or plane ((start nan (c + 16) write c + k) % (c + 16)) nan) c i nan h ∙ ap (λ (k : ℕ). get_or plane k nan) e

  arm_at_lem : (i : ℕ) → i < c → slice_index_or (arm_at c table phase) i nan ≡ slice_index_or table (phase * c + i) nan
  arm_at_lem i h = get_or-take c (drop (phase * c) table) i nan h ∙ get_or-drop (phase * c) table i nan

  -- a turn of the run and a turn of the sum, where both stand at the same place
  turn_same : (i from base j : ℕ) → i < c → (start nan (c + 16) write c + i) % (c + 16) ≡ from + j → base + j ≡ phase * c + i → (s : Complex32)
      → run_turn real imaginary from table base j s ≡ sum_turn (arm_at c table phase) (latest nan (c + 16) real write c) (latest nan (c + 16) imaginary write c) i s
  turn_same i from base j h e f s =
      let t : get_or table (base + j) nan ≡ get_or (arm_at c table phase) i nan = ap (λ (k : ℕ). get_or table k nan) f ∙ sym (arm_at_lem i h) in
      λ k. record {
        real = add binary32 s.real (mul binary32 (sym (window_at real i (from + j) h e) k) (t k));
        imaginary = add binary32 s.imaginary (mul binary32 (sym (window_at imaginary i (from + j) h e) k) (t k));
      }

  pub one_run : start nan (c + 16) write c + c ≤ c + 16
      → run_of zero_pair real imaginary (start nan (c + 16) write c) table (phase * c) c ≡ sum_of c (arm_at c table phase) (latest nan (c + 16) real write c) (latest nan (c + 16) imaginary write c)
  unfolding run_of sum_of
  one_run h =
      turns_same _ _ c zero_pair (λ i s l. turn_same i (start nan (c + 16) write c) (phase * c) i l (mod-eq_of_lt (omega arith)) refl s)

  pub two_runs : (straight : ℕ) → straight + start nan (c + 16) write c ≡ c + 16 → straight ≤ c
      → run_of (run_of zero_pair real imaginary (start nan (c + 16) write c) table (phase * c) straight) real imaginary 0 table (phase * c + straight) (c - straight)
      ≡ sum_of c (arm_at c table phase) (latest nan (c + 16) real write c) (latest nan (c + 16) imaginary write c)
  unfolding run_of sum_of
  two_runs straight e h =
      let o = start nan (c + 16) write c in
      let f = sum_turn (arm_at c table phase) (latest nan (c + 16) real write c) (latest nan (c + 16) imaginary write c) in
      ap (λ (s : Complex32). turns (run_turn real imaginary 0 table (phase * c + straight)) (c - straight) s)
      (turns_same _ f straight zero_pair (λ i s l. turn_same i o (phase * c) i (omega arith) (mod-eq_of_lt (omega arith)) refl s))
      ∙ turns_same _ (λ (i : ℕ). f (straight + i)) (c - straight) (turns f straight zero_pair)
      (λ i s l. turn_same (straight + i) 0 (phase * c + straight) i (omega arith)
      (ap (λ (k : ℕ). k % (c + 16)) (let g : o + (straight + i) ≡ c + 16 + (0 + i) = omega arith in g) ∙ add-mod_left (c + 16) (0 + i) ∙ mod-eq_of_lt (let g : 0 + i < c + 16 = omega arith in g)) (omega arith) s)
      ∙ turns_plus f straight (c - straight) zero_pair
      ∙ ap (λ (n : ℕ). turns f n zero_pair) (let g : straight + (c - straight) ≡ c = omega arith in g)

-- ---- what the code's calls come to
pub oldest_in : (c write : ℕ) → start nan (c + 16) write c < c + 16
oldest_in c write = mod-lt (write + (c + 16) - c) (omega arith)

-- the arm of a phase lies within the table
pub base_small : (phase c : ℕ) → phase < 32 → c ≤ 576 → phase * c ≤ 31 * 576
base_small phase c h k = mul-le-mul (le_of_suc-le-suc h) k

module _ (r : Resampler) (table real imaginary : List Float) (phase : ℕ) (z v : Complex32) (o : ℕ)
    (W : r.write < r.arm + 16) (ze : z ≡ zero_pair) (oe : o ≡ start nan (r.arm + 16) r.write r.arm) where
  pub filtered_one : r.arm ≤ r.arm + 16 - o → v ≡ run_of z real imaginary o table (phase * r.arm) r.arm → v ≡ filtered_of r table real imaginary phase
  filtered_one h e =
      e
      ∙ (λ i. run_of (ze i) real imaginary (oe i) table (phase * r.arm) r.arm)
      ∙ one_run r.arm r.write W table real imaginary phase (let l = oldest_in r.arm r.write in omega arith)

  pub filtered_two : (s : Complex32) → r.arm + 16 - o < r.arm
      → s ≡ run_of z real imaginary o table (phase * r.arm) (r.arm + 16 - o)
      → v ≡ run_of s real imaginary 0 table (phase * r.arm + (r.arm + 16 - o)) (r.arm - (r.arm + 16 - o)) → v ≡ filtered_of r table real imaginary phase
  filtered_two s h e f =
      let n = r.arm + 16 - o in
      let l = oldest_in r.arm r.write in
      f
      ∙ ap (λ (t : Complex32). run_of t real imaginary 0 table (phase * r.arm + n) (r.arm - n)) (e ∙ (λ i. run_of (ze i) real imaginary (oe i) table (phase * r.arm) n))
      ∙ two_runs r.arm r.write W table real imaginary phase n (omega arith) (omega arith)
