-- How a clause speaks of a lent array: its name in a `requires` is a reference, and in an `ensures` the reference at entry and at exit. Now and Lends are of a `&`, NowMut and LendsMut of a `&mut`. Definitions only.
use Rattle.std.specs.Prelude.{List}
use Rattle.std.specs.Borrow.{Bor, MutBor}
use denote.Triple.Both.{Both}

abbrev pub Now : Type 0 → Type 0
Now A = Bor (List A)

abbrev pub Lends : Type 0 → Type 0
Lends A = Both (Bor (List A)) (Bor (List A))

abbrev pub NowMut : Type 0 → Type 0
NowMut A = MutBor (List A)

abbrev pub LendsMut : Type 0 → Type 0
LendsMut A = Both (MutBor (List A)) (MutBor (List A))
