-- What parts that are cut anew have to be, and what a state, a table and all samples have to be. What holds of it stands in proofs/.
use Rattle.std.specs.Prelude.{◌≡◌, true, List, [], ◌∷◌, ◌+◌, ◌*◌, ◌^◌, ◌≤◌, length, Float}
use Rattle.receiver_state.specs.declared.state.Receiver.{Receiver}
use Rattle.receiver.specs.Admitted.{admitted_of}
use Rattle.samples.specs.Samples.{count_of, finite_of}
use Rattle.promises.specs.Cutting.{Part}

-- parts of at most 65,536 samples each
abbrev pub AllFew : List Part → Type 0
AllFew [] = Unit {0}
AllFew (c ∷ parts) = (count_of c.samples ≤ 65536) × AllFew parts

-- what a state, a table and all samples together have to be, however these are cut: an admitted state, 32 c taps, finite samples, and a total that stays within 2^52
pub record Takes (r : Receiver) (table xs : List Float) : Type 0 where
  pub admitted : admitted_of r ≡ true
  pub table_in : 32 * r.front.resampler.arm ≤ length table
  pub total_in : r.total + count_of xs ≤ 2 ^ 52
  pub finite : finite_of xs ≡ true
