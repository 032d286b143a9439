-- What the code's own steps come to: from what its calls promise to the definitions. Assumes nothing.
use Rattle.std.specs.Prelude.{◌≡◌, ℕ, suc, ◌+◌, ◌-◌, ◌*◌, ◌/◌, ◌%◌, ◌^◌, ◌<◌, true, T, ℤ, pos, negsuc, int_lt, refl}
use Rattle.std.proofs.Common.{le_trans, mod-eq_of_lt, mod-lt, div-add-mod', arith, sym, ap, ◌∙◌, lit<, lit≤, le→leb, lt→ltb, ltb-true}
use Rattle.std.specs.Float.{binary64}
use Rattle.std.specs.Float.Ieee.{in_float}
use Rattle.std.specs.Int.Signed.{mag}
use Rattle.laws.specs.Modulo.{modulo}
use Rattle.numbers.specs.Bits.{signed_of, unsigned_of}
use Rattle.decimator.specs.declared.Stages.{Stages}
use Rattle.decimator.specs.declared.Difference.{Difference}
use Rattle.decimator.specs.Decimator.{wrap_add, wrap_sub, integrated_of, combed_of}
use Rattle.decimator.proofs.Residues.{only_one}

-- the bits of a signed 64-bit number are the number modulo 2 ^ 64
bits_modulo : (z : ℤ) → mag z < 2 ^ 63 → unsigned_of z ≡ modulo (2 ^ 64) z
unfolding modulo
bits_modulo (pos n) h = sym (mod-eq_of_lt (le_trans h (lit≤ tt)))
bits_modulo (negsuc n) h =
    let e : n % 2 ^ 64 ≡ n = mod-eq_of_lt (le_trans h (lit≤ tt)) in
    let f : 2 ^ 64 - 1 - n ≡ 2 ^ 64 - suc n = omega arith in
    f ∙ ap (λ (m : ℕ). 2 ^ 64 - suc m) (sym e)

pub integrated_is : (s : Stages) (n : ℤ) (e a b c : ℕ) → mag n < 2 ^ 63 → e ≡ unsigned_of n → a ≡ wrap_add s.first e → b ≡ wrap_add s.second a → c ≡ wrap_add s.third b
    → ◌≡◌ {A = Stages} (record { first = a; second = b; third = c }) (integrated_of s n)
unfolding integrated_of
integrated_is s n e a b c h pe pa pb pc =
    let qa : a ≡ wrap_add s.first (modulo (2 ^ 64) n) = pa ∙ ap (wrap_add s.first) (pe ∙ bits_modulo n h) in
    let qb : b ≡ wrap_add s.second (wrap_add s.first (modulo (2 ^ 64) n)) = pb ∙ ap (wrap_add s.second) qa in
    λ i. record { first = qa i; second = qb i; third = (pc ∙ ap (wrap_add s.third) qb) i }

-- a comb's difference is the one that `wrapping_sub_u64` promises
sub_is : (a b r : ℕ) → a < 2 ^ 64 → b < 2 ^ 64 → r < 2 ^ 64 → (r + b) % 2 ^ 64 ≡ a → r ≡ wrap_sub a b
sub_is a b r A B R e =
    let z = a + (2 ^ 64 - b) in
    let p : 0 < 2 ^ 64 = lit< tt in
    let x : (r + b) / 2 ^ 64 * 2 ^ 64 + (r + b) % 2 ^ 64 ≡ r + b = div-add-mod' (r + b) (2 ^ 64) in
    let y : z / 2 ^ 64 * 2 ^ 64 + z % 2 ^ 64 ≡ z = div-add-mod' z (2 ^ 64) in
    only_one (2 ^ 64) r (z % 2 ^ 64) 1 ((r + b) / 2 ^ 64 + z / 2 ^ 64) R (mod-lt z p) (go r b a z ((r + b) / 2 ^ 64) ((r + b) % 2 ^ 64) (z / 2 ^ 64) (z % 2 ^ 64) (2 ^ 64) B e x y refl)
  where
    go : (r b a z k m l n M : ℕ) → b < M → m ≡ a → k * M + m ≡ r + b → l * M + n ≡ z → z ≡ a + (M - b) → r + 1 * M ≡ n + (k + l) * M
    go r b a z k m l n M B e x y w = omega arith

-- the words of the combs, each below 2 ^ 64
pub record Differences (y : Stages) (sum a b c : ℕ) : Type 0 where
  pub sum_word : sum < 2 ^ 64
  pub first_word : y.first < 2 ^ 64
  pub second_word : y.second < 2 ^ 64
  pub third_word : y.third < 2 ^ 64
  pub a_word : a < 2 ^ 64
  pub b_word : b < 2 ^ 64
  pub c_word : c < 2 ^ 64

pub combed_is : (y : Stages) (sum a b c : ℕ) (v : ℤ) → Differences y sum a b c
    → (a + y.first) % 2 ^ 64 ≡ sum → (b + y.second) % 2 ^ 64 ≡ a → (c + y.third) % 2 ^ 64 ≡ b → v ≡ signed_of c
    → ◌≡◌ {A = Difference} (record { delays = record { first = sum; second = a; third = b }; value = v }) (combed_of y sum)
unfolding combed_of
combed_is y sum a b c v k pa pb pc pv =
    let qa : a ≡ wrap_sub sum y.first = sub_is sum y.first a k.sum_word k.first_word k.a_word pa in
    let qb : b ≡ wrap_sub (wrap_sub sum y.first) y.second = sub_is a y.second b k.a_word k.second_word k.b_word pb ∙ ap (λ (x : ℕ). wrap_sub x y.second) qa in
    let qc : c ≡ wrap_sub (wrap_sub (wrap_sub sum y.first) y.second) y.third = sub_is b y.third c k.b_word k.third_word k.c_word pc ∙ ap (λ (x : ℕ). wrap_sub x y.third) qb in
    λ i. record { delays = record { first = sum; second = qa i; third = qb i }; value = (pv ∙ ap signed_of qc) i }

-- a whole number below 2 ^ 53 in size is a float
pub small_float : (z : ℤ) → int_lt (negsuc 9007199254740991) z ≡ true → int_lt z (pos 9007199254740992) ≡ true → T (in_float binary64 z)
unfolding in_float
small_float (pos n) h k = le→leb n (2 ^ 53) (let l = ltb-true n (2 ^ 53) k in omega arith)
small_float (negsuc n) h k = lt→ltb n (2 ^ 53) (let l = ltb-true n 9007199254740991 h in omega arith)
