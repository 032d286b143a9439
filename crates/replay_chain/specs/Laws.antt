-- The rooms that a row lends for the second stream are what the chain asks for. Assumes nothing.
use Rattle.std.specs.Prelude.{◌≡◌, ℕ, ◌*◌, ◌≤◌, Bool, true, false, cond, List, length, take}
use Rattle.std.proofs.Common.{ap, arith, true≢false, length-take-le}
use Rattle.std.proofs.lemmas.Bool.{false≢true}
use Rattle.chain.specs.Ranges.{RoomyToo}

-- the first room dibits of 264, with a pair of reliabilities to each: all of them, or none
pub lent_rooms : (both : Bool) (n written room : ℕ) (dibits reliabilities : List ℕ) → room ≡ cond both 264 0 → length dibits ≡ 264 → length reliabilities ≡ 528
    → n ≤ 256 → written ≤ 8 → RoomyToo both n (record { dibits = take room dibits; reliabilities = take (2 * room) reliabilities; written = written })
lent_rooms true n written room dibits reliabilities e d r h w =
    let a : length (take room dibits) ≡ room = length-take-le room dibits (omega arith) in
    let b : length (take (2 * room) reliabilities) ≡ 2 * room = length-take-le (2 * room) reliabilities (omega arith) in
    record { room = λ t. record { dibits = omega arith; reliabilities = omega arith }; no_dibits = λ f. absurd (true≢false f); no_reliabilities = λ f. absurd (true≢false f) }
lent_rooms false n written room dibits reliabilities e d r h w =
    record { room = λ t. absurd (false≢true t); no_dibits = λ f. ap (λ (k : ℕ). take k dibits) e; no_reliabilities = λ f. ap (λ (k : ℕ). take (2 * k) reliabilities) e }
