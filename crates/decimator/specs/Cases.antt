-- The worked examples P1 to P8 (docs/SPECIFICATION.md): one table, and one proof that the definitions give it. Assumes nothing.
use Rattle.std.specs.Prelude.{◌≡◌, ℕ, ◌-◌, ◌*◌, ◌^◌, true, false, List, [], ◌∷◌, map, ℤ, pos, negsuc, neg_ℤ, refl, Float, Option, Some, None}
use Rattle.std.specs.Float.{nan, inf, fin}
use Rattle.std.specs.Float.Ieee.{mul, of_bits, to_signed}
use Rattle.laws.specs.Places.{upto}
use Rattle.laws.specs.Modulo.{modulo}
use Rattle.whole.specs.Whole.{whole_of}
use Rattle.decimator.specs.declared.Counts.{Counts}
use Rattle.decimator.specs.Decimator.{quantised_of, fresh_of, integrated_of, combed_of, advanced_of, raw_outputs_of}
use Rattle.decimator.specs.Demand.{weight}

-- one number in both parts, and the sums among a row's raw outputs
abbrev pub twin : ℤ → Counts
twin n = record { real = n; imaginary = n }

abbrev pub sums : List (Option Counts) → List Counts
sums [] = []
sums (None ∷ raw) = sums raw
sums (Some n ∷ raw) = n ∷ sums raw

pub data Case : Type 0 where
  -- decimating by d from fresh, these samples in both parts give these outputs
  decimating : ℕ → List ℤ → List ℤ → Case
  -- the weights of d
  weighing : ℕ → List ℕ → Case
  quantising : Float → ℤ → Case

abbrev pub Holds : Case → Type 0
Holds (decimating d samples outputs) = sums (raw_outputs_of (fresh_of d) (map twin samples)) ≡ map twin outputs
Holds (weighing d weights) = upto (weight d) (3 * d - 2) ≡ weights
Holds (quantising x n) = quantised_of x ≡ n

abbrev pub All : List Case → Type 0
All [] = Unit {0}
All (c ∷ cs) = Holds c × All cs

abbrev pub table : List Case
table =
    -- P1 to P5
    decimating 2 (pos 1 ∷ pos 0 ∷ pos 0 ∷ pos 0 ∷ pos 0 ∷ pos 0 ∷ []) (pos 3 ∷ pos 1 ∷ pos 0 ∷ [])
    ∷ decimating 2 (pos 0 ∷ pos 1 ∷ pos 0 ∷ pos 0 ∷ pos 0 ∷ pos 0 ∷ []) (pos 1 ∷ pos 3 ∷ pos 0 ∷ [])
    ∷ decimating 2 (pos 1 ∷ pos 1 ∷ pos 1 ∷ pos 1 ∷ []) (pos 4 ∷ pos 8 ∷ [])
    ∷ decimating 2 (pos (2 ^ 60) ∷ pos (2 ^ 60) ∷ pos (2 ^ 60) ∷ pos (2 ^ 60) ∷ []) (pos (2 ^ 62) ∷ neg_ℤ (pos (2 ^ 63)) ∷ [])
    ∷ decimating 2 (pos (2 ^ 62) ∷ pos (2 ^ 62) ∷ pos (2 ^ 62) ∷ pos (2 ^ 62) ∷ []) (pos 0 ∷ pos 0 ∷ [])
    -- P6
    ∷ weighing 3 (1 ∷ 3 ∷ 6 ∷ 7 ∷ 6 ∷ 3 ∷ 1 ∷ [])
    -- P7: 0.5 / 32768 is 2 ^ -16
    ∷ quantising (fin false 1 (negsuc 15)) (pos 1)
    ∷ quantising (fin true 1 (negsuc 15)) (neg_ℤ (pos 1))
    -- P8
    ∷ quantising nan (pos 0)
    ∷ quantising (inf false) (pos (2 ^ 63 - 1))
    ∷ []

pub covered : All table
unfolding raw_outputs_of fresh_of advanced_of integrated_of combed_of modulo weight upto quantised_of whole_of mul of_bits to_signed
covered = (refl, (refl, (refl, (refl, (refl, (refl, (refl, (refl, (refl, (refl, tt))))))))))
