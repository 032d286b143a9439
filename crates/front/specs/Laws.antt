-- One law for each way out of a function: what the code leaves there is the definition. Assumes nothing.
use Rattle.std.specs.Prelude.{ℕ, zero, suc, ◌+◌, ◌≤◌, ◌≡◌, refl, List, [], ◌∷◌, length, set, take, Float, Option, Some, None}
use Rattle.std.proofs.Common.{add-one, arith, sym, ap, ◌∙◌, take_all}
use Rattle.complex.specs.declared.Complex32.{Complex32}
use Rattle.resampler.specs.declared.pass.Resampler.{Resampler}
use Rattle.resampler.specs.declared.pass.Passed.{Passed}
use Rattle.front.specs.Resample.{resample_state, resample_values}
use Rattle.resampler.specs.Pass.{Sampled, resampled_of, values_of}
use Rattle.resampler.specs.Admitted.{PassKeeps}
use Rattle.resampler.specs.Admitted.{Admitted as RingAdmitted}
use Rattle.front.specs.Front.{Row, Offered, laid_of, offered_of}
use Rattle.front.specs.Admitted.{Offer}

-- ---- values into the row
two_taken : {A : Type 0} (n : ℕ) (a b : A) → 2 ≤ n → take n (a ∷ b ∷ []) ≡ a ∷ b ∷ []
two_taken n a b h = take_all n (a ∷ b ∷ []) h

pub laid_nothing : (r : Row) → r ≡ laid_of [] r
unfolding laid_of
laid_nothing r = let e : r.made + 0 ≡ r.made = omega arith in rw e

pub laid_none : (p : Passed) (r : Row) → p.count ≡ 0 → r ≡ laid_of (values_of p) r
laid_none p r h = rw h (laid_nothing r)

pub laid_one : (p : Passed) (r : Row) → p.count ≡ 1
    → ◌≡◌ {A = Row} (record { real = set r.real r.made p.first.real; imaginary = set r.imaginary r.made p.first.imaginary; made = r.made + 1 }) (laid_of (values_of p) r)
unfolding laid_of
laid_one p r h = rw h

pub laid_two : (p : Passed) (r : Row) → 2 ≤ p.count
    → ◌≡◌ {A = Row} (record {
      real = set (set r.real r.made p.first.real) (r.made + 1) p.second.real;
      imaginary = set (set r.imaginary r.made p.first.imaginary) (r.made + 1) p.second.imaginary;
      made = r.made + 2;
    }) (laid_of (values_of p) r)
unfolding laid_of
laid_two p r h = rw (two_taken p.count p.first p.second h, add-one)

-- ---- a decimated value, or none
pub offered_none : (table : List Float) (f : Offered) (o : Option Complex32) → o ≡ None → f ≡ offered_of table f o
unfolding resample_state resample_values
offered_none table f o e = rw e (λ i. record { ring = f.ring; row = laid_nothing f.row i })

pub offered_some : (table : List Float) (f : Offered) (o : Option Complex32) (v : Complex32) (s : Sampled) (row : Row) → o ≡ Some v
    → s ≡ resampled_of f.ring.resampler v table f.ring.real f.ring.imaginary → row ≡ laid_of (values_of s.passed) f.row
    → ◌≡◌ {A = Offered} (record { ring = record { resampler = s.passed.resampler; real = s.real; imaginary = s.imaginary }; row = row }) (offered_of table f o)
unfolding resample_state resample_values
offered_some table f o v s row e se re =
    (λ i. record { ring = record { resampler = s.passed.resampler; real = s.real; imaginary = s.imaginary }; row = re i })
    ∙ (λ i. record { ring = record { resampler = (se i).passed.resampler; real = (se i).real; imaginary = (se i).imaginary }; row = laid_of (values_of (se i).passed) f.row })
    ∙ ap (offered_of table f) (sym e)

-- what an offer keeps
pub values_few : (p : Passed) → length (values_of p) ≤ 2
values_few p = go p.count
  where
    go : (n : ℕ) → length (take n (p.first ∷ p.second ∷ [])) ≤ 2
    go zero = omega arith
    go (suc zero) = omega arith
    go (suc (suc zero)) = omega arith
    go (suc (suc (suc n))) = omega arith

made_laid : (zs : List Complex32) (r : Row) → (laid_of zs r).made ≡ r.made + length zs
unfolding laid_of
made_laid zs r = refl

pub offer_none : (r : Resampler) (made : ℕ) → RingAdmitted r → Offer r made (record { resampler = r; made = made })
offer_none r made k = record { admitted = k; index_low = omega arith; index = omega arith; arm = refl; few = omega arith }

pub offer_some : (r : Resampler) (made : ℕ) (p : Passed) (row old : Row) → PassKeeps r p → old.made ≡ made → row ≡ laid_of (values_of p) old → Offer r made (record { resampler = p.resampler; made = row.made })
offer_some r made p row old k m e =
    let i = k.one_more in
    let l = values_few p in
    let h : row.made ≡ old.made + length (values_of p) = ap (λ (t : Row). t.made) e ∙ made_laid (values_of p) old in
    record { admitted = k.admitted; index_low = omega arith; index = omega arith; arm = k.same_arm; few = omega arith }
