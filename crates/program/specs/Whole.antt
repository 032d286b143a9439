-- The whole program: all that it writes for all that it is given, piece by piece as its stages wait for bytes; and the specification's example, word for word. Assumes nothing.
use Rattle.std.specs.Prelude.{◌≡◌, refl, false, cond, List, [], ◌∷◌, ◌++◌, ℕ, zero, suc, ◌+◌, ◌*◌, ◌≤◌, eqb, pos, length, take, drop, replicate, Float}
use Rattle.std.proofs.Common.{ap, ◌∙◌, append-nil, arith, take_at, le-ltb}
use Rattle.std.proofs.lemmas.List.{length-replicate}
use Rattle.std.specs.Float.{binary32, binary64}
use Rattle.std.specs.Float.Ieee.{of_bits, of_int, to_unsigned, add, mul, div, lt, le}
use Rattle.numbers.specs.Constants.{zero64}
use Rattle.numbers.specs.Numbers.{abs_of, is_finite}
use Rattle.whole.specs.Whole.{whole_of}
use Rattle.resampler.specs.Dimensions.{decimation_of, decimated_of, arm_length_of, sized_of}
use Rattle.resampler.specs.Design as design
use Rattle.receiver_state.specs.declared.state.Receiver.{Receiver}
use Rattle.receiver_state.specs.State.{zero_receiver, fresh_front, fresh_receiver}
use Rattle.checks.specs.Checks.{rate_refused, offset_refused}
use Rattle.receiver.specs.Setup.{setup_of}
use Rattle.recording.specs.declared.text.Totals.{Totals}
use Rattle.recording.specs.Decode.{word_at}
use Rattle.recording.specs.Text.{Written, written_of, put, closing_of}
use Rattle.recording.specs.TextLaws.{nothing, nothing_closed, put_is}
use Rattle.program.specs.declared.step.Stage.{Stage}
use Rattle.program.specs.declared.step.Stage.TheVariants.{Head, Settings, Count, End}
use Rattle.program.specs.Answer.{totals_of}
use Rattle.program.specs.Program.{wanted_of, Ran, on_to, head_good, head_of, set_up_of, settings_of, count_of, end_of, step_of, table_of, rest_of}

-- a step's text goes from the start of a buffer
abbrev blank : List ℕ
blank = replicate 24606 0

abbrev text_of : Ran → List ℕ
text_of x = take x.text.place x.text.buffer

-- from a stage on, at most n of them: the bytes that it waits for, or as many as are left, its text, and so on
unfoldable pub wrote_of : ℕ → Stage → Receiver → ℕ → List Float → List ℕ → List ℕ
wrote_of zero s r overload table input = []
wrote_of (suc n) s r overload table input =
    let bytes = take (wanted_of s) input in
    let x = step_of s r overload bytes table blank in
    cond (eqb (wanted_of s) 0) [] (text_of x ++ wrote_of n x.stage x.receiver x.overload (table_of s bytes table) (drop (wanted_of s) input))

-- all bytes in, all bytes out; a stage is passed once, but for a block's
abbrev pub room : List Float
room = replicate 16384 (of_bits binary32 0)

unfoldable pub program_of : List ℕ → List ℕ
program_of input = wrote_of (rest_of Head) Head zero_receiver 0 room input

-- ---- a step that writes nothing, and the last one
on : (n : ℕ) (s t : Stage) (r q : Receiver) (table : List Float) (input : List ℕ) → eqb (wanted_of s) 0 ≡ false → step_of s r 0 (take (wanted_of s) input) table blank ≡ on_to t q 0 blank
    → wrote_of (suc n) s r 0 table input ≡ wrote_of n t q 0 (table_of s (take (wanted_of s) input) table) (drop (wanted_of s) input)
unfolding wrote_of
on n s t r q table input w e = rw (w, e)

shown : (t : List ℕ) → length t ≤ 24606 → take (put t (written_of 0 blank)).place (put t (written_of 0 blank)).buffer ≡ t
shown t h =
    let k = length-replicate {A = ℕ} 24606 0 in
    ap (λ (w : Written). take w.place w.buffer) (put_is t 0 blank (omega arith)) ∙ take_at t (drop (0 + length t) blank) (0 + length t) (let e : length t ≡ 0 + length t = omega arith in e)

-- ---- 48,000 samples a second, offset 0
abbrev rate : Float
rate = of_bits binary64 0x40e7_7000_0000_0000

rate_passes : rate_refused rate ≡ false
unfolding rate_refused is_finite of_bits lt
rate_passes = refl

offset_passes : offset_refused rate zero64 ≡ false
unfolding offset_refused is_finite abs_of of_bits le div add
offset_passes = refl

arm_is : (sized_of rate).arm ≡ 72
unfolding sized_of decimation_of decimated_of arm_length_of whole_of mul div of_int of_bits to_unsigned
arm_is = refl

abbrev fresh : Receiver
fresh = fresh_receiver (fresh_front rate zero64 (sized_of rate)) (pos 0)

set_up : (table : List Float) → length table ≡ 16384 → setup_of rate zero64 (pos 0) table ≡ record { number = 0; receiver = fresh; table = design.written_of (sized_of rate).arm (sized_of rate).rate table }
unfolding setup_of
set_up table h = rw (rate_passes, offset_passes, le-ltb (length table) (32 * (sized_of rate).arm) (let a = arm_is in omega arith))

-- ---- its steps, where no sample follows
abbrev settings : List ℕ
settings = 0 ∷ 0 ∷ 0 ∷ 0 ∷ 0 ∷ 112 ∷ 231 ∷ 64 ∷ 0 ∷ 0 ∷ 0 ∷ 0 ∷ 0 ∷ 0 ∷ 0 ∷ 0 ∷ []

head_step : (r : Receiver) (table : List Float) → step_of Head r 0 (2 ∷ 0 ∷ 0 ∷ 0 ∷ []) table blank ≡ on_to Settings r 0 blank
unfolding head_of head_good word_at
head_step r table = refl

words : (word_at 8 settings 0 ≡ 0x40e7_7000_0000_0000) × (word_at 8 settings 8 ≡ 0)
unfolding word_at
words = (refl, refl)

settings_step : (r : Receiver) (table : List Float) → length table ≡ 16384 → step_of Settings r 0 settings table blank ≡ on_to Count fresh 0 blank
unfolding settings_of set_up_of
settings_step r table h = rw (words.0, words.1, set_up table h)

count_step : (r : Receiver) (table : List Float) → step_of Count r 0 (0 ∷ 0 ∷ 0 ∷ 0 ∷ []) table blank ≡ on_to End r 0 blank
unfolding count_of word_at
count_step r table = refl

totals : totals_of fresh.chain 0 ≡ nothing
unfolding fresh_receiver
totals = refl

few : length (closing_of nothing) ≤ 24606
few = let e : length (closing_of nothing) ≡ 37 = ap length nothing_closed in omega arith

end_step : (table : List Float) (n : ℕ) → wrote_of (suc (suc n)) End fresh 0 table [] ≡ closing_of nothing
unfolding wrote_of end_of
end_step table n =
    ap (λ (t : Totals). take (put (closing_of t) (written_of 0 blank)).place (put (closing_of t) (written_of 0 blank)).buffer ++ []) totals
    ∙ append-nil _
    ∙ shown (closing_of nothing) few

-- DOCUMENT 01'S EXAMPLE: with rate 48000, offset 0 and n 0 the whole output is the four lines `symbols 0`, `locked 0`, `lock 0`, `overload 0`
pub nothing_received : program_of (2 ∷ 0 ∷ 0 ∷ 0 ∷ settings ++ (0 ∷ 0 ∷ 0 ∷ 0 ∷ []))
    ≡ 115 ∷ 121 ∷ 109 ∷ 98 ∷ 111 ∷ 108 ∷ 115 ∷ 32 ∷ 48 ∷ 10
    ∷ 108 ∷ 111 ∷ 99 ∷ 107 ∷ 101 ∷ 100 ∷ 32 ∷ 48 ∷ 10
    ∷ 108 ∷ 111 ∷ 99 ∷ 107 ∷ 32 ∷ 48 ∷ 10
    ∷ 111 ∷ 118 ∷ 101 ∷ 114 ∷ 108 ∷ 111 ∷ 97 ∷ 100 ∷ 32 ∷ 48 ∷ 10 ∷ []
unfolding program_of
nothing_received =
    on 4294967298 Head Settings zero_receiver zero_receiver room (2 ∷ 0 ∷ 0 ∷ 0 ∷ settings ++ (0 ∷ 0 ∷ 0 ∷ 0 ∷ [])) refl (head_step zero_receiver room)
    ∙ on 4294967297 Settings Count zero_receiver fresh room (settings ++ (0 ∷ 0 ∷ 0 ∷ 0 ∷ [])) refl (settings_step zero_receiver room (length-replicate 16384 (of_bits binary32 0)))
    ∙ on 4294967296 Count End fresh fresh (table_of Settings settings room) (0 ∷ 0 ∷ 0 ∷ 0 ∷ []) refl (count_step fresh (table_of Settings settings room))
    ∙ end_step (table_of Settings settings room) 4294967294
    ∙ nothing_closed
