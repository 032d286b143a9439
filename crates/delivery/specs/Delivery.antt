-- Delivery: what is delivered of an answer, and how it is laid into the room that the caller lends. Definitions only.
use Rattle.std.specs.Prelude.{ℕ, ◌+◌, ◌*◌, Bool, true, cond, List, [], ◌∷◌, ℤ, length, Option, None, Some}
use Rattle.std.proofs.lemmas.List.Edits.{sets}
use Rattle.labels.specs.Labels.{rearranges, labelled_of, counted_of}
use Rattle.delivery.specs.declared.DeliveryPlace.{DeliveryPlace}
use Rattle.delivery.specs.declared.step.Stepped.{Stepped}
use Rattle.answers.specs.declared.walk.Dibit.{Dibit}

-- an answer is delivered only where the other stream has one too
abbrev pub paired_of : Option Dibit → Bool → Option Dibit
paired_of answer other = cond other answer None

-- a dibit is a symbol delivered, and one under lock where the carrier is locked after it
unfoldable pub told_of : DeliveryPlace → Option Dibit → Bool → Stepped
told_of p answer locked = record {
  place = record { profile = p.profile; symbols = counted_of p.symbols answer true; locked = counted_of p.locked answer locked };
  answer = labelled_of (rearranges p.profile) answer;
}

-- ---- written

-- a dibit, and the reliabilities of its higher and lower bit
abbrev pub answer_dibits : Option Dibit → List ℕ
answer_dibits None = []
answer_dibits (Some d) = d.value ∷ []

abbrev pub answer_pair : Option Dibit → List ℕ
answer_pair None = []
answer_pair (Some d) = d.high ∷ d.low ∷ []

-- dibits and reliabilities as lent, and how many dibits are written
pub record Room : Type 0 where
  pub dibits : List ℕ
  pub reliabilities : List ℕ
  pub written : ℕ

-- laid over from the first that is not written on, the rest untouched
abbrev pub laid_in : Room → List ℕ → List ℕ → Room
laid_in room ds rs = record {
  dibits = sets room.dibits room.written ds;
  reliabilities = sets room.reliabilities (2 * room.written) rs;
  written = room.written + length ds;
}

-- an answer written as its profile labels it
abbrev pub noted_in : ℤ → Room → Option Dibit → Room
noted_in profile room answer = let label = labelled_of (rearranges profile) answer in laid_in room (answer_dibits label) (answer_pair label)

-- ---- one answer

-- the stage, and the room for what it delivers
pub record Lent : Type 0 where
  pub place : DeliveryPlace
  pub room : Room

abbrev pub delivered_with : Room → Stepped → Lent
delivered_with room s = record { place = s.place; room = laid_in room (answer_dibits s.answer) (answer_pair s.answer) }

unfoldable pub delivered_of : Lent → Option Dibit → Bool → Lent
delivered_of l answer locked = delivered_with l.room (told_of l.place answer locked)
