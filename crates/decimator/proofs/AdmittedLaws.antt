-- The decimator's test passes exactly where its ranges hold; a fresh decimator passes it, and a step keeps it. Assumes nothing.
use Rattle.std.specs.Prelude.{◌≡◌, ℕ, ◌≤◌, true, ◌&&◌, nat_le, nat_lt, refl}
use Rattle.std.proofs.Common.{arith, ltb-true, leb-true, lt-ltb, le-leb}
use Rattle.laws.specs.Branches.{and_true}
use Rattle.complex.specs.declared.Complex32.{Complex32}
use Rattle.decimator.specs.declared.Decimator.{Decimator}
use Rattle.decimator.specs.Decimator.{fresh_of, admitted_of, Admitted, Counting, stepped_of}
use Rattle.decimator.proofs.Values.{step_counting}

pub admitted_facts : (d : Decimator) → admitted_of d ≡ true → Admitted d
admitted_facts d e =
    let low = and_true (nat_le 1 d.decimation) (nat_le d.decimation 78 && nat_lt d.counter d.decimation) e in
    let high = and_true (nat_le d.decimation 78) (nat_lt d.counter d.decimation) low.1 in
    record {
      decimation_low = leb-true 1 d.decimation low.0;
      decimation_high = leb-true d.decimation 78 high.0;
      counter_in = ltb-true d.counter d.decimation high.1;
    }

pub facts_admitted : (d : Decimator) → Admitted d → admitted_of d ≡ true
facts_admitted d a = rw (le-leb 1 d.decimation a.decimation_low, le-leb d.decimation 78 a.decimation_high, lt-ltb d.counter d.decimation a.counter_in)

pub fresh_admitted : (n : ℕ) → 1 ≤ n → n ≤ 78 → Admitted (fresh_of n)
unfolding fresh_of
fresh_admitted n l h = record { decimation_low = l; decimation_high = h; counter_in = l }

-- of a decimation in range
pub counting_admitted : (n : ℕ) (d : Decimator) → n ≤ 78 → Counting n d → Admitted d
counting_admitted n d h k =
    let by = k.by in
    let early = k.early in
    record { decimation_low = omega arith; decimation_high = omega arith; counter_in = omega arith }

-- ADMITTED IN, ADMITTED OUT
pub step_admitted : (d : Decimator) (z : Complex32) → Admitted d → Admitted (stepped_of d z).decimator
step_admitted d z a = counting_admitted d.decimation (stepped_of d z).decimator a.decimation_high (step_counting d.decimation d z (record { by = refl; early = a.counter_in }))
