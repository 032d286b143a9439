-- The program's steps: what each waits for, and what it does with the bytes that came. Definitions only.
use Rattle.std.specs.Prelude.{ℕ, ◌+◌, ◌-◌, ◌*◌, ◌≤◌, ◌<◌, min, Bool, cond, ◌&&◌, List, eqb, ltb, pos, length, Float}
use Rattle.std.specs.Float.{binary64}
use Rattle.std.specs.Float.Ieee.{of_bits}
use Rattle.receiver_state.specs.declared.state.Receiver.{Receiver}
use Rattle.receiver_state.specs.State.{zero_receiver}
use Rattle.receiver.specs.Setup.{SetUp, setup_of}
use Rattle.recording.specs.Decode.{word_at}
use Rattle.recording.specs.Text.{Written, written_of, put, closing_of, refused_of}
use Rattle.program.specs.declared.step.Stage.{Stage}
use Rattle.program.specs.declared.step.Stage.TheVariants.{Head, Settings, Count, Samples, End, Done}
use Rattle.program.specs.declared.step.Program.{Program}
use Rattle.program.specs.Answer.{Told, told_of, totals_of}

-- blocks of 1,024, the last shorter
abbrev pub next_of : ℕ → ℕ
next_of left = min left 1024

-- how many bytes a stage waits for
abbrev pub wanted_of : Stage → ℕ
wanted_of Head = 4
wanted_of Settings = 16
wanted_of Count = 4
wanted_of (Samples left) = 8 * next_of left
wanted_of End = 1
wanted_of Done = 0

abbrev pub started_of : Program
started_of = record { stage = Head; receiver = zero_receiver; overload = 0; end = 0 }

-- a program with the text that it is to write
pub record Ran : Type 0 where
  pub stage : Stage
  pub receiver : Receiver
  pub overload : ℕ
  pub text : Written

abbrev pub ran_now : Program → List ℕ → Ran
ran_now p text = record { stage = p.stage; receiver = p.receiver; overload = p.overload; text = written_of p.end text }

-- on to a stage, with nothing to write
abbrev pub on_to : Stage → Receiver → ℕ → List ℕ → Ran
on_to stage r overload text = record { stage = stage; receiver = r; overload = overload; text = written_of 0 text }

-- a refusal's line is the last
abbrev pub refused_ran : ℕ → Receiver → ℕ → Written → Ran
refused_ran n r overload w = record { stage = Done; receiver = r; overload = overload; text = put (refused_of n) w }

abbrev pub malformed : Receiver → ℕ → List ℕ → Ran
malformed r overload text = refused_ran 8 r overload (written_of 0 text)

-- ---- the count of settings is 2
unfoldable pub head_good : List ℕ → Bool
head_good bytes = eqb (length bytes) 4 && eqb (word_at 4 bytes 0) 2

unfoldable pub head_of : Receiver → ℕ → List ℕ → List ℕ → Ran
head_of r overload bytes text = cond (head_good bytes) (on_to Settings r overload text) (malformed r overload text)

-- ---- rate and offset: setup is run, with profile 0
unfoldable pub set_up_of : List ℕ → List Float → SetUp
set_up_of bytes table = setup_of (of_bits binary64 (word_at 8 bytes 0)) (of_bits binary64 (word_at 8 bytes 8)) (pos 0) table

abbrev pub set_up_ran : SetUp → Receiver → ℕ → List ℕ → Ran
set_up_ran s r overload text = cond (eqb s.number 0) (on_to Count s.receiver overload text) (refused_ran s.number r overload (written_of 0 text))

unfoldable pub settings_of : Receiver → ℕ → List ℕ → List Float → List ℕ → Ran
settings_of r overload bytes table text = cond (eqb (length bytes) 16) (set_up_ran (set_up_of bytes table) r overload text) (malformed r overload text)

unfoldable pub settings_table : List ℕ → List Float → List Float
settings_table bytes table = cond (eqb (length bytes) 16) (set_up_of bytes table).table table

-- ---- the count of samples
abbrev pub stage_of : ℕ → Stage
stage_of left = cond (ltb 0 left) (Samples left) End

unfoldable pub count_of : Receiver → ℕ → List ℕ → List ℕ → Ran
count_of r overload bytes text = cond (eqb (length bytes) 4) (on_to (stage_of (word_at 4 bytes 0)) r overload text) (malformed r overload text)

-- ---- a block: one cut short is not run
abbrev pub block_ran : ℕ → Told → ℕ → Ran
block_ran left t overload =
    cond (eqb t.number 0)
    (record { stage = stage_of (left - next_of left); receiver = t.receiver; overload = overload + t.overload; text = t.lines })
    (refused_ran t.number t.receiver overload t.lines)

unfoldable pub samples_of : ℕ → Receiver → ℕ → List ℕ → List Float → List ℕ → Ran
samples_of left r overload bytes table text = cond (eqb (length bytes) (8 * next_of left)) (block_ran left (told_of r table bytes (next_of left) text) overload) (malformed r overload text)

-- ---- no byte after the last sample
unfoldable pub end_of : Receiver → ℕ → List ℕ → List ℕ → Ran
end_of r overload bytes text =
    cond (eqb (length bytes) 0) (record { stage = Done; receiver = r; overload = overload; text = put (closing_of (totals_of r.chain overload)) (written_of 0 text) }) (malformed r overload text)

-- ---- a step, from any stage, and what it does to the lent table
abbrev pub step_of : Stage → Receiver → ℕ → List ℕ → List Float → List ℕ → Ran
step_of Head r overload bytes table text = head_of r overload bytes text
step_of Settings r overload bytes table text = settings_of r overload bytes table text
step_of Count r overload bytes table text = count_of r overload bytes text
step_of (Samples left) r overload bytes table text = samples_of left r overload bytes table text
step_of End r overload bytes table text = end_of r overload bytes text
step_of Done r overload bytes table text = on_to Done r overload text

abbrev pub table_of : Stage → List ℕ → List Float → List Float
table_of Head bytes table = table
table_of Settings bytes table = settings_table bytes table
table_of Count bytes table = table
table_of (Samples left) bytes table = table
table_of End bytes table = table
table_of Done bytes table = table

-- ---- a program whose text could not be written is stopped
abbrev pub stopped_of : Program → Program
stopped_of p = record { stage = Done; receiver = p.receiver; overload = p.overload; end = 0 }

abbrev pub gone_on : Program → Bool → Program
gone_on p written = cond written p (stopped_of p)

-- ---- the samples that can still come, and the stages
abbrev pub left_of : Stage → ℕ
left_of Head = 4294967295
left_of Settings = 4294967295
left_of Count = 4294967295
left_of (Samples left) = left
left_of End = 0
left_of Done = 0

abbrev pub stages_of : Stage → ℕ
stages_of Head = 4
stages_of Settings = 3
stages_of Count = 2
stages_of (Samples left) = 1
stages_of End = 1
stages_of Done = 0

abbrev pub rest_of : Stage → ℕ
rest_of s = left_of s + stages_of s

-- from s with o overloads to t with q: at most one for a sample that came, and nearer to the end
pub record Moves (s : Stage) (o : ℕ) (t : Stage) (q : ℕ) : Type 0 where
  pub few : q + left_of t ≤ o + left_of s
  pub less : rest_of t < rest_of s
