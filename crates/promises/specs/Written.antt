-- What a block writes into the rooms that it is lent, for every state, table, samples and rooms. What holds of it stands in proofs/.
use Rattle.std.specs.Prelude.{◌≡◌, List, ◌++◌, ℕ, ◌≤◌, length, drop}
use Rattle.std.proofs.Common.{arith, length-append, length-drop, drop_at}

-- only the first n places were written: the length is kept, and from place n on lies what lay there
pub record OnlyFirst {A : Type 0} (n : ℕ) (before after : List A) : Type 0 where
  pub size : length after ≡ length before
  pub rest : drop n after ≡ drop n before

pub only_first : {A : Type 0} (n : ℕ) (xs l : List A) → length xs ≡ n → n ≤ length l → OnlyFirst n l (xs ++ drop n l)
only_first n xs l e h = record { size = simp (length-append, length-drop) (omega arith); rest = drop_at xs (drop n l) n e }
