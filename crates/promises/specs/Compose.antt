-- Two blocks one after the other give what one block of both gives. What holds of it stands in proofs/.
use Rattle.std.specs.Prelude.{◌≡◌, List, ◌++◌, ℕ, ◌+◌, ◌*◌, take}
use Rattle.receiver.specs.Block.{Outcome}

-- what a block delivered: its first k dibits, and its first 2k reliability bytes
abbrev pub delivered_dibits : Outcome → List ℕ
delivered_dibits o = take o.count o.dibits

abbrev pub delivered_bytes : Outcome → List ℕ
delivered_bytes o = take (2 * o.count) o.reliabilities

-- and of the second stream
abbrev pub delivered_others : Outcome → List ℕ
delivered_others o = take o.count o.others

abbrev pub delivered_other_bytes : Outcome → List ℕ
delivered_other_bytes o = take (2 * o.count) o.other_reliabilities

-- three accepted blocks, of which the whole gives what the first and then the second give: the second's state and Snapshot, k and overload summed, and what both delivered, in order
pub record InTurn (first second whole : Outcome) : Type 0 where
  pub first_accepted : first.number ≡ 0
  pub second_accepted : second.number ≡ 0
  pub whole_accepted : whole.number ≡ 0
  pub receiver : whole.receiver ≡ second.receiver
  pub snapshot : whole.snapshot ≡ second.snapshot
  pub count : whole.count ≡ first.count + second.count
  pub overload : whole.overload ≡ first.overload + second.overload
  pub dibits : delivered_dibits whole ≡ delivered_dibits first ++ delivered_dibits second
  pub reliabilities : delivered_bytes whole ≡ delivered_bytes first ++ delivered_bytes second

-- and so for the second stream, where the rooms of all three have one
pub record InTurnToo (first second whole : Outcome) : Type 0 where
  pub others : delivered_others whole ≡ delivered_others first ++ delivered_others second
  pub other_reliabilities : delivered_other_bytes whole ≡ delivered_other_bytes first ++ delivered_other_bytes second
