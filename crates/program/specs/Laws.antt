-- A block's answer from what decoding, the receiver and the lines give; the closing lines from the snapshot; how much of
-- each there can be. Assumes nothing.
use Rattle.std.specs.Prelude.{◌≡◌, refl, Bool, true, false, cond, List, [], ◌++◌, ℕ, ◌+◌, ◌*◌, ◌/◌, ◌≤◌, eqb, ltb, length, take, Float, Result, Ok, Err}
use Rattle.std.proofs.Common.{sym, ap, ◌∙◌, arith, length-take}
use Rattle.std.proofs.Math.Seq.{take-append_seam}
use Rattle.std.specs.Float.{nan}
use Rattle.laws.specs.Places.{length_upto}
use Rattle.chain.specs.declared.ChainPlace.{ChainPlace}
use Rattle.receiver_state.specs.declared.state.Receiver.{Receiver}
use Rattle.receiver_state.specs.declared.state.Snapshot.{Snapshot}
use Rattle.receiver.specs.declared.block.Block.{Block}
use Rattle.receiver_state.specs.State.{snapshot_of, flag_of}
use Rattle.checks.specs.declared.refusal.Refusal.{Refusal}
use Rattle.samples.specs.Samples.{is_at_end, overload_of}
use Rattle.samples.specs.Laws.{samples_most}
use Rattle.checks.specs.Checks.{stated_of}
use Rattle.receiver.specs.Admitted.{judged_of}
use Rattle.receiver.specs.Block.{Rooms, dibit_room, reliability_room, Outcome, outcome_now, accepted_of, refused_of, block_of}
use Rattle.recording.specs.Decode.{float_at, floats_of}
use Rattle.recording.specs.Text.{Written, written_of, put, lines_of, closing_of}
use Rattle.program.specs.Answer.{Told, told_now, told_by, lent_rooms, told_of, totals_of}

pub length_floats : (n : ℕ) (bytes : List ℕ) → length (floats_of n bytes) ≡ n
unfolding floats_of
length_floats n bytes = length_upto (float_at bytes) n

-- the decoded floats stand at the start
pub decoded_first : (n : ℕ) (bytes : List ℕ) (xs rest : List Float) → xs ≡ floats_of n bytes ++ rest → take n xs ≡ floats_of n bytes
decoded_first n bytes xs rest e = ap (λ (l : List Float). take n l) e ∙ ap (λ (k : ℕ). take k (floats_of n bytes ++ rest)) (sym (length_floats n bytes)) ∙ take-append_seam (floats_of n bytes) rest

module _ (r : Receiver) (table : List Float) (bytes : List ℕ) (n : ℕ) (text : List ℕ) (xs rest : List Float) (after : Receiver) (ds rs : List ℕ) (x : xs ≡ floats_of (2 * n) bytes ++ rest) where
  told : (b : Result Block Refusal) → outcome_now b after ds rs [] [] ≡ block_of r table (take (2 * n) xs) lent_rooms → told_by (outcome_now b after ds rs [] []) text ≡ told_of r table bytes n text
  unfolding told_of
  told b o = ap (λ (q : Outcome). told_by q text) (o ∙ ap (λ (ys : List Float). block_of r table ys lent_rooms) (decoded_first (2 * n) bytes xs rest x))

  pub answered_is : (b : Block) (end : ℕ) (left : List ℕ) → outcome_now (Ok b) after ds rs [] [] ≡ block_of r table (take (2 * n) xs) lent_rooms
      → written_of end left ≡ put (lines_of ds rs b.count) (written_of 0 text)
      → told_now (Ok (record { overload = b.overload; end = end })) after left ≡ told_of r table bytes n text
  answered_is b end left o w = ap (λ (l : Written). record { number = 0; overload = b.overload; receiver = after; lines = l }) w ∙ told (Ok b) o

  -- a refused block has no lines
  pub answered_not : (e : Refusal) → outcome_now (Err e) after ds rs [] [] ≡ block_of r table (take (2 * n) xs) lent_rooms → told_now (Err e) after text ≡ told_of r table bytes n text
  unfolding put lines_of
  answered_not e o = told (Err e) o

-- the snapshot's lock number is above 0 where the carrier is locked
flag_above : (b : Bool) → ltb 0 (flag_of b) ≡ b
flag_above true = refl
flag_above false = refl

pub closed_is : (chain : ChainPlace) (overload : ℕ) (s : Snapshot) (w v : Written) → s ≡ snapshot_of chain
    → w ≡ put (closing_of (record { symbols = s.symbols; locked = s.locked_symbols; lock = ltb 0 s.carrier_locked; overload = overload })) v
    → w ≡ put (closing_of (totals_of chain overload)) v
unfolding snapshot_of
closed_is chain overload s w v e h =
    h ∙ ap (λ (x : Snapshot). put (closing_of (record { symbols = x.symbols; locked = x.locked_symbols; lock = ltb 0 x.carrier_locked; overload = overload })) v) e
    ∙ ap (λ (b : Bool). put (closing_of (record { symbols = chain.symbols; locked = chain.locked; lock = b; overload = overload })) v) (flag_above chain.carrier.turn.locked)

-- at most two dibits a sample, in lines of at most 12 bytes
pub taken_most : (m : ℕ) (xs : List Float) (k : ℕ) → k ≤ length (take m xs) → k ≤ m
taken_most m xs k h = let e = length-take m xs in omega arith

pub lines_most : (n k end : ℕ) → k ≤ 2 * n → end ≤ 0 + 12 * k → end ≤ 24 * n
lines_most n k end h e = omega arith

-- at most one overload a sample
judged_few : (b : Bool) (xs : List Float) → cond b (overload_of xs) 0 ≤ length xs / 2
unfolding overload_of
judged_few true xs = samples_most is_at_end nan xs
judged_few false xs = omega arith

outcome_few : (b : Bool) (x y : Outcome) (m : ℕ) → x.overload ≤ m → y.overload ≤ m → (cond b x y).overload ≤ m
outcome_few true x y m h k = h
outcome_few false x y m h k = k

block_few : (r : Receiver) (table xs : List Float) (o : Rooms) → (block_of r table xs o).overload ≤ length xs / 2
unfolding block_of stated_of accepted_of
block_few r table xs o =
    let j = judged_of r xs (length table) (dibit_room o) (reliability_room o) in
    outcome_few (eqb j.number 0) (accepted_of r table xs j.overload o) (refused_of j.number r o) (length xs / 2) (judged_few (eqb j.number 0) xs) (omega arith)

pub told_few : (r : Receiver) (table : List Float) (bytes : List ℕ) (n : ℕ) (text : List ℕ) (t : Told) → t ≡ told_of r table bytes n text → t.overload ≤ n
unfolding told_of
told_few r table bytes n text t e =
    let h = block_few r table (floats_of (2 * n) bytes) lent_rooms in
    let k = length_floats (2 * n) bytes in
    let q : t.overload ≡ (block_of r table (floats_of (2 * n) bytes) lent_rooms).overload = ap (λ (u : Told). u.overload) e in
    omega arith
