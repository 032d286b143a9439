-- A call has one answer: answers of equal outcome are equal, with the state and the lent memory that they leave, so two that meet the call's contract for the same
-- arguments are the same. Assumes nothing.
use Rattle.std.specs.Prelude.{◌≡◌, refl, List, ℕ, ℤ, Float, Result, Ok, Err, ⊤}
use Rattle.std.proofs.Common.{sym, ap, ◌∙◌}
use Rattle.receiver_state.specs.declared.state.Receiver.{Receiver}
use Rattle.receiver.specs.declared.block.Block.{Block}
use Rattle.receiver.specs.declared.reading.Points.{Points}
use Rattle.checks.specs.declared.refusal.Refusal.{Refusal}
use Rattle.checks.proofs.Laws.{number_tells, apart, verdict_tells}
use Rattle.receiver.specs.Setup.{SetUp, setup_now, setup_of}
use Rattle.receiver.specs.Block.{Rooms, Outcome, outcome_now, block_of}
use Rattle.receiver.specs.Enable.{Enabling, enabled_now, enable_of}
use Rattle.receiver.specs.Reading.{Reading, points_now, reading_of}

-- ---- setup: the verdict with the state, and the table
pub setup_unique : (x y : Result Receiver Refusal) (table other : List Float) → setup_now x table ≡ setup_now y other → (x ≡ y) × (table ≡ other)
setup_unique (Ok r) (Ok s) table other e = (ap (λ (s : SetUp). Ok s.receiver) e, ap (λ (s : SetUp). s.table) e)
setup_unique (Ok r) (Err d) table other e = absurd (apart d (ap (λ (s : SetUp). s.number) e))
setup_unique (Err d) (Ok r) table other e = absurd (apart d (sym (ap (λ (s : SetUp). s.number) e)))
setup_unique (Err c) (Err d) table other e = (ap (λ (r : Refusal). Err r) (number_tells c d (ap (λ (s : SetUp). s.number) e)), ap (λ (s : SetUp). s.table) e)

-- so two answers that meet the contract of `set_up` for the same arguments are the same
pub one_setup : (rate offset : Float) (profile : ℤ) (lent : List Float) (x y : Result Receiver Refusal) (table other : List Float)
    → setup_now x table ≡ setup_of rate offset profile lent → setup_now y other ≡ setup_of rate offset profile lent → (x ≡ y) × (table ≡ other)
one_setup rate offset profile lent x y table other p q = setup_unique x y table other (p ∙ sym q)

-- ---- a block: the verdict with k, overload and Snapshot
answer_unique : (x y : Result Block Refusal) (r s : Receiver) (ds rs es qs fs us gs vs : List ℕ) → outcome_now x r ds rs es qs ≡ outcome_now y s fs us gs vs → x ≡ y
answer_unique (Ok a) (Ok b) r s ds rs es qs fs us gs vs e = ap (λ (o : Outcome). Ok (record { count = o.count; overload = o.overload; snapshot = o.snapshot })) e
answer_unique (Ok a) (Err d) r s ds rs es qs fs us gs vs e = absurd (apart d (ap (λ (o : Outcome). o.number) e))
answer_unique (Err d) (Ok b) r s ds rs es qs fs us gs vs e = absurd (apart d (sym (ap (λ (o : Outcome). o.number) e)))
answer_unique (Err c) (Err d) r s ds rs es qs fs us gs vs e = ap (λ (r : Refusal). Err r) (number_tells c d (ap (λ (o : Outcome). o.number) e))

module _ (r : Receiver) (ds rs es qs : List ℕ) where
  -- what an outcome has of the state and the rooms is what they are after the call
  left_is : (x : Result Block Refusal) → ((outcome_now x r ds rs es qs).receiver ≡ r) × ((outcome_now x r ds rs es qs).dibits ≡ ds) × ((outcome_now x r ds rs es qs).reliabilities ≡ rs)
      × ((outcome_now x r ds rs es qs).others ≡ es) × ((outcome_now x r ds rs es qs).other_reliabilities ≡ qs)
  left_is (Ok b) = (refl, refl, refl, refl, refl)
  left_is (Err e) = (refl, refl, refl, refl, refl)

-- and the state, and the rooms of both streams
pub block_unique : (x y : Result Block Refusal) (r s : Receiver) (ds rs es qs fs us gs vs : List ℕ) → outcome_now x r ds rs es qs ≡ outcome_now y s fs us gs vs
    → (x ≡ y) × (r ≡ s) × (ds ≡ fs) × (rs ≡ us) × (es ≡ gs) × (qs ≡ vs)
block_unique x y r s ds rs es qs fs us gs vs e =
    let a = left_is r ds rs es qs x in
    let b = left_is s fs us gs vs y in (
      answer_unique x y r s ds rs es qs fs us gs vs e,
      sym a.0 ∙ ap (λ (o : Outcome). o.receiver) e ∙ b.0,
      sym a.1 ∙ ap (λ (o : Outcome). o.dibits) e ∙ b.1,
      sym a.2 ∙ ap (λ (o : Outcome). o.reliabilities) e ∙ b.2,
      sym a.3 ∙ ap (λ (o : Outcome). o.others) e ∙ b.3,
      sym a.4 ∙ ap (λ (o : Outcome). o.other_reliabilities) e ∙ b.4,
    )

-- so two that meet the contract of `take` are the same, and two that meet that of `take_both`
pub one_block : (r : Receiver) (table samples : List Float) (lent : Rooms) (x y : Result Block Refusal) (s t : Receiver) (ds rs es qs fs us gs vs : List ℕ)
    → outcome_now x s ds rs es qs ≡ block_of r table samples lent → outcome_now y t fs us gs vs ≡ block_of r table samples lent
    → (x ≡ y) × (s ≡ t) × (ds ≡ fs) × (rs ≡ us) × (es ≡ gs) × (qs ≡ vs)
one_block r table samples lent x y s t ds rs es qs fs us gs vs p q = block_unique x y s t ds rs es qs fs us gs vs (p ∙ sym q)

-- ---- an enabling: the verdict, and the state
pub enabling_unique : (x y : Result ⊤ Refusal) (r s : Receiver) → enabled_now x r ≡ enabled_now y s → (x ≡ y) × (r ≡ s)
enabling_unique x y r s e = (verdict_tells x y (ap (λ (n : Enabling). n.number) e), ap (λ (n : Enabling). n.receiver) e)

-- so two that meet the contract of `enable` are the same
pub one_enabling : (r : Receiver) (x y : Result ⊤ Refusal) (s t : Receiver) → enabled_now x s ≡ enable_of r → enabled_now y t ≡ enable_of r → (x ≡ y) × (s ≡ t)
one_enabling r x y s t p q = enabling_unique x y s t (p ∙ sym q)

-- ---- a reading: the verdict with count and error, and the lent floats
pub reading_unique : (x y : Result Points Refusal) (output other : List Float) → points_now x output ≡ points_now y other → (x ≡ y) × (output ≡ other)
reading_unique (Ok p) (Ok q) output other e = (ap (λ (s : Reading). Ok (record { count = s.count; error = s.error })) e, ap (λ (s : Reading). s.output) e)
reading_unique (Ok p) (Err d) output other e = absurd (apart d (ap (λ (s : Reading). s.number) e))
reading_unique (Err d) (Ok q) output other e = absurd (apart d (sym (ap (λ (s : Reading). s.number) e)))
reading_unique (Err c) (Err d) output other e = (ap (λ (r : Refusal). Err r) (number_tells c d (ap (λ (s : Reading). s.number) e)), ap (λ (s : Reading). s.output) e)

-- so two that meet the contract of `read` are the same
pub one_reading : (r : Receiver) (lent : List Float) (x y : Result Points Refusal) (output other : List Float)
    → points_now x output ≡ reading_of r lent → points_now y other ≡ reading_of r lent → (x ≡ y) × (output ≡ other)
one_reading r lent x y output other p q = reading_unique x y output other (p ∙ sym q)
