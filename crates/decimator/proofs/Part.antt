-- One part of the decimator: its integrators hold running totals of its history, its delays what the combs met at the last outputs, and what comes out is the weighted sum. Assumes nothing.
use Rattle.std.specs.Prelude.{◌≡◌, ℕ, suc, ◌+◌, ◌^◌, ◌<◌, ◌≤◌, List, [], ◌∷◌, drop, ℤ, pos, ◌+ℤ◌, ◌-ℤ◌, slice_index_or, refl}
use Rattle.std.proofs.Common.{mod-eq_of_lt, add-one, arith, ◌∙◌}
use Rattle.std.proofs.Math.Path.{sym, ap, ap₂}
use Rattle.std.proofs.Math.IntN.{+ℤ_idl, +ℤ_comm, -ℤ-+ℤ_cancel}
use Rattle.laws.specs.Modulo.{modulo}
use Rattle.decimator.specs.declared.Stages.{Stages}
use Rattle.numbers.specs.Bits.{signed_of}
use Rattle.decimator.specs.Decimator.{wrap_add, wrap_sub, integrated_of, combed_of}
use Rattle.decimator.specs.Demand.{weighted, wrapped}
use Rattle.decimator.proofs.Boxes.{newest, total, box, Total, total_is, total_box, box_total, boxes, weighted_is}
use Rattle.decimator.proofs.Residues.{wrap_add_lem, wrap_sub_lem}

abbrev bits : ℤ → ℕ
bits z = modulo (2 ^ 64) z

-- ---- one part: its samples, their sum, the sum of the sums, and once more
pub once : List ℤ → ℤ
once = total newest

pub twice : List ℤ → ℤ
twice = total once

pub thrice : List ℤ → ℤ
thrice = total twice

once_total : Total once newest
unfolding once newest
once_total = total_is newest refl

twice_total : Total twice once
unfolding twice
twice_total = total_is once once_total.none_yet

thrice_total : Total thrice twice
unfolding thrice
thrice_total = total_is twice twice_total.none_yet

-- the integrators after the history h
pub record Summed (h : List ℤ) (s : Stages) : Type 0 where
  pub first_sum : s.first ≡ bits (once h)
  pub second_sum : s.second ≡ bits (twice h)
  pub third_sum : s.third ≡ bits (thrice h)

-- what one part holds after the history h, the last output being `since` samples old: of the delays, what the last `level` outputs have renewed
pub record PartHolds (d level since : ℕ) (h : List ℤ) (s : Stages) (y : Stages) : Type 0 where
  pub sums : Summed h s
  pub first_delay : 1 ≤ level → y.first ≡ bits (thrice (drop since h))
  pub second_delay : 2 ≤ level → y.second ≡ bits (box d twice (drop since h))
  pub third_delay : 3 ≤ level → y.third ≡ bits (box d (box d once) (drop since h))

-- an integrator's new value
grows : {g f : List ℤ → ℤ} → Total g f → (x : ℤ) (h : List ℤ) (a b : ℕ) → a ≡ bits (g h) → b ≡ bits (f (x ∷ h)) → wrap_add a b ≡ bits (g (x ∷ h))
grows {g} {f} t x h a b p q = ap₂ wrap_add p q ∙ wrap_add_lem (g h) (f (x ∷ h)) ∙ ap bits (sym (t.one_more x h))

-- a comb's value, where l is the history d samples before h
combs : {g f : List ℤ → ℤ} → Total g f → (d : ℕ) (h l : List ℤ) (a b : ℕ) → drop d h ≡ l → a ≡ bits (g h) → b ≡ bits (g l) → wrap_sub a b ≡ bits (box d f h)
combs {g} {f} t d h l a b e p q = ap₂ wrap_sub p (q ∙ ap (λ (k : List ℤ). bits (g k)) (sym e)) ∙ wrap_sub_lem (g h) (g (drop d h)) (box d f h) (total_box t d h)

module _ (d level since : ℕ) (h : List ℤ) (s : Stages) (y : Stages) (k : PartHolds d level since h s y) (x : ℤ) where
  summed : Summed (x ∷ h) (integrated_of s x)
  unfolding integrated_of
  summed =
      let a = wrap_add s.first (bits x) in
      let b = wrap_add s.second a in
      let pa : a ≡ bits (once (x ∷ h)) = grows once_total x h s.first (bits x) k.sums.first_sum (unfold newest in refl) in
      let pb : b ≡ bits (twice (x ∷ h)) = grows twice_total x h s.second a k.sums.second_sum pa in
      record { first_sum = pa; second_sum = pb; third_sum = grows thrice_total x h s.third b k.sums.third_sum pb }

  pub kept_silent : PartHolds d level (since + 1) (x ∷ h) (integrated_of s x) y
  kept_silent =
      let e : since + 1 ≡ suc since = add-one since in
      record {
        sums = summed;
        first_delay = λ l. rw e (k.first_delay l);
        second_delay = λ l. rw e (k.second_delay l);
        third_delay = λ l. rw e (k.third_delay l);
      }

  -- an output: the combs' value, and the delays that it renews
  module _ (full : since + 1 ≡ d) where
    ago_d : drop d (x ∷ h) ≡ drop since h
    ago_d = ap (λ (n : ℕ). drop n (x ∷ h)) (sym full ∙ add-one since)

    a : ℕ
    a = wrap_sub (integrated_of s x).third y.first

    b : ℕ
    b = wrap_sub a y.second

    first_comb : 1 ≤ level → a ≡ bits (box d twice (x ∷ h))
    unfolding a
    first_comb l = combs thrice_total d (x ∷ h) (drop since h) (integrated_of s x).third y.first ago_d summed.third_sum (k.first_delay l)

    second_comb : 2 ≤ level → b ≡ bits (box d (box d once) (x ∷ h))
    unfolding b
    second_comb l = combs (box_total twice_total d) d (x ∷ h) (drop since h) a y.second ago_d (first_comb (omega arith)) (k.second_delay l)

    third_comb : 3 ≤ level → wrap_sub b y.third ≡ bits (box d (box d (box d newest)) (x ∷ h))
    third_comb l = combs (box_total (box_total once_total d) d) d (x ∷ h) (drop since h) b y.third ago_d (second_comb (omega arith)) (k.third_delay l)

    pub kept_sounded : PartHolds d (suc level) 0 (x ∷ h) (integrated_of s x) (combed_of y (integrated_of s x).third).delays
    unfolding combed_of a b
    kept_sounded = record {
      sums = summed;
      first_delay = λ l. summed.third_sum;
      second_delay = λ l. first_comb (omega arith);
      third_delay = λ l. second_comb (omega arith);
    }

    pub sounded_value : 3 ≤ level → (combed_of y (integrated_of s x).third).value ≡ wrapped (weighted d (λ age. slice_index_or (x ∷ h) age (pos 0)))
    unfolding combed_of a b wrapped
    sounded_value l = ap signed_of (third_comb l ∙ ap bits (boxes d (x ∷ h) ∙ sym (weighted_is d (λ age. slice_index_or (x ∷ h) age (pos 0)))))

-- ---- two states to start from

-- nothing has come yet
zero_bits : (z : ℤ) → z ≡ pos 0 → 0 ≡ bits z
unfolding modulo
zero_bits z e = ap bits (sym e)

pub kept_fresh : (d : ℕ) → PartHolds d 3 0 [] (record { first = 0; second = 0; third = 0 }) (record { first = 0; second = 0; third = 0 })
kept_fresh d = record {
  sums = record {
    first_sum = zero_bits (once []) once_total.none_yet;
    second_sum = zero_bits (twice []) twice_total.none_yet;
    third_sum = zero_bits (thrice []) thrice_total.none_yet;
  };
  first_delay = λ l. zero_bits (thrice []) thrice_total.none_yet;
  second_delay = λ l. zero_bits (box d twice []) (box_total twice_total d).none_yet;
  third_delay = λ l. zero_bits (box d (box d once) []) (box_total (box_total once_total d) d).none_yet;
}

-- any sums are those of some history of three samples
pub record Words (s : Stages) : Type 0 where
  pub first_word : s.first < 2 ^ 64
  pub second_word : s.second < 2 ^ 64
  pub third_word : s.third < 2 ^ 64

module _ (s : Stages) where
  p : ℤ
  p = pos s.first

  q : ℤ
  q = pos s.second

  r : ℤ
  r = pos s.third

  -- the second sum at the second sample, and the first sum there
  u : ℤ
  u = q -ℤ p

  pub oldest : ℤ
  oldest = r -ℤ q -ℤ u

  w : ℤ
  w = u -ℤ oldest

  pub middle : ℤ
  middle = w -ℤ oldest

  pub latest : ℤ
  latest = p -ℤ w

  restore : (a b : ℤ) → a +ℤ (b -ℤ a) ≡ b
  restore a b = +ℤ_comm a (b -ℤ a) ∙ -ℤ-+ℤ_cancel b a

  once_3 : once (latest ∷ middle ∷ oldest ∷ []) ≡ p
  unfolding once newest total latest middle
  once_3 = ap (λ (z : ℤ). z +ℤ middle +ℤ latest) (+ℤ_idl oldest) ∙ ap (λ (z : ℤ). z +ℤ latest) (restore oldest w) ∙ restore w p

  once_2 : once (middle ∷ oldest ∷ []) ≡ w
  unfolding once newest total middle
  once_2 = ap (λ (z : ℤ). z +ℤ middle) (+ℤ_idl oldest) ∙ restore oldest w

  once_1 : once (oldest ∷ []) ≡ oldest
  unfolding once newest total
  once_1 = +ℤ_idl oldest

  twice_1 : twice (oldest ∷ []) ≡ oldest
  unfolding twice total
  twice_1 = ap (λ (z : ℤ). pos 0 +ℤ z) once_1 ∙ +ℤ_idl oldest

  twice_2 : twice (middle ∷ oldest ∷ []) ≡ u
  unfolding twice total w
  twice_2 = ap₂ ◌+ℤ◌ twice_1 once_2 ∙ restore oldest u

  twice_3 : twice (latest ∷ middle ∷ oldest ∷ []) ≡ q
  unfolding twice total u
  twice_3 = ap₂ ◌+ℤ◌ twice_2 once_3 ∙ -ℤ-+ℤ_cancel q p

  thrice_1 : thrice (oldest ∷ []) ≡ oldest
  unfolding thrice total
  thrice_1 = ap (λ (z : ℤ). pos 0 +ℤ z) twice_1 ∙ +ℤ_idl oldest

  thrice_2 : thrice (middle ∷ oldest ∷ []) ≡ r -ℤ q
  unfolding thrice total oldest
  thrice_2 = ap₂ ◌+ℤ◌ thrice_1 twice_2 ∙ -ℤ-+ℤ_cancel (r -ℤ q) u

  thrice_3 : thrice (latest ∷ middle ∷ oldest ∷ []) ≡ r
  unfolding thrice total
  thrice_3 = ap₂ ◌+ℤ◌ thrice_2 twice_3 ∙ -ℤ-+ℤ_cancel r q

  own_bits : (n : ℕ) (z : ℤ) → n < 2 ^ 64 → z ≡ pos n → n ≡ bits z
  unfolding modulo
  own_bits n z l e = sym (mod-eq_of_lt l) ∙ ap bits (sym e)

  pub kept_any : (d since : ℕ) (y : Stages) → Words s → PartHolds d 0 since (latest ∷ middle ∷ oldest ∷ []) s y
  unfolding p q r
  kept_any d since y k = record {
    sums = record {
      first_sum = own_bits s.first (once (latest ∷ middle ∷ oldest ∷ [])) k.first_word once_3;
      second_sum = own_bits s.second (twice (latest ∷ middle ∷ oldest ∷ [])) k.second_word twice_3;
      third_sum = own_bits s.third (thrice (latest ∷ middle ∷ oldest ∷ [])) k.third_word thrice_3;
    };
    first_delay = λ l. absurd (omega arith);
    second_delay = λ l. absurd (omega arith);
    third_delay = λ l. absurd (omega arith);
  }
