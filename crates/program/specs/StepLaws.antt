-- Each step by its ways out: what the code gives there is what the definition says. Assumes nothing.
use Rattle.std.specs.Prelude.{◌≡◌, Bool, true, false, cond, List, ℕ, ◌+◌, ◌-◌, ◌*◌, ◌≤◌, ◌<◌, eqb, ltb, pos, length, Float, Result, Ok, Err}
use Rattle.std.proofs.Math.Path.{refl, ap}
use Rattle.std.proofs.Common.{sym, ◌∙◌, subst, arith, lt-ltb, le-ltb, eqb-true}
use Rattle.std.specs.Float.Ieee.{binary64, of_bits}
use Rattle.laws.specs.Branches.{cond_yes, cond_then, cond_no}
use Rattle.receiver_state.specs.declared.state.Receiver.{Receiver}
use Rattle.checks.specs.declared.refusal.Refusal.{Refusal}
use Rattle.checks.specs.Refusal.{number_of}
use Rattle.checks.specs.Ways.{number_not}
use Rattle.receiver.specs.Setup.{SetUp, setup_now, setup_of}
use Rattle.recording.specs.Decode.{word_at}
use Rattle.recording.specs.Text.{Written, written_of, put, closing_of, refused_of}
use Rattle.program.specs.declared.answer.Taken.{Taken}
use Rattle.program.specs.declared.step.Stage.{Stage}
use Rattle.program.specs.declared.step.Stage.TheVariants.{Head, Settings, Count, Samples, End, Done}
use Rattle.program.specs.declared.step.Program.{Program}
use Rattle.program.specs.Answer.{Told, told_now, told_of, totals_of}
use Rattle.program.specs.Program.{next_of, wanted_of, started_of, Ran, ran_now, on_to, refused_ran, malformed, head_good, head_of, set_up_of, set_up_ran, settings_of, settings_table, stage_of, count_of, block_ran, samples_of, end_of, step_of, table_of, gone_on, left_of, rest_of, Moves}

-- ---- where the samples go
pub stage_some : (left : ℕ) → 0 < left → Samples left ≡ stage_of left
stage_some left h = cond_yes (ltb 0 left) (Samples left) End (lt-ltb 0 left h)

pub stage_none : (left : ℕ) → left ≤ 0 → End ≡ stage_of left
stage_none left h = cond_no (ltb 0 left) (Samples left) End End (le-ltb 0 left h) refl

stage_left : (b : Bool) (left : ℕ) → left_of (cond b (Samples left) End) ≤ left
stage_left true left = omega arith
stage_left false left = omega arith

stage_rest : (b : Bool) (left : ℕ) → rest_of (cond b (Samples left) End) ≤ left + 1
stage_rest true left = omega arith
stage_rest false left = omega arith

-- ---- a refusal
pub refused_is : (r : Receiver) (overload n k at end : ℕ) (text after : List ℕ) → k ≡ n → written_of end after ≡ put (refused_of k) (written_of at text)
    → ran_now (record { stage = Done; receiver = r; overload = overload; end = end }) after ≡ refused_ran n r overload (written_of at text)
refused_is r overload n k at end text after e w =
    ap (λ (t : Written). record { stage = Done; receiver = r; overload = overload; text = t }) (w ∙ ap (λ (j : ℕ). put (refused_of j) (written_of at text)) e)

pub refused_moves : (s : Stage) (overload n : ℕ) (r : Receiver) (p : Program) (after : List ℕ) (w : Written) → ran_now p after ≡ refused_ran n r overload w → 0 < rest_of s
    → Moves s overload p.stage p.overload
refused_moves s overload n r p after w e h =
    let a : p.stage ≡ Done = ap (λ (x : Ran). x.stage) e in
    let b : p.overload ≡ overload = ap (λ (x : Ran). x.overload) e in
    rw (a, b) (record { few = omega arith; less = h })

-- ---- the count of settings
pub head_good_lem : (bytes : List ℕ) (b : Bool) (n : ℕ) → b ≡ eqb (length bytes) 4 → b ≡ true → n ≡ word_at 4 bytes 0 → eqb n 2 ≡ head_good bytes
unfolding head_good
head_good_lem bytes b n be t ne = rw (← be, t, ne)

pub head_cut : (bytes : List ℕ) (b : Bool) → b ≡ eqb (length bytes) 4 → b ≡ false → false ≡ head_good bytes
unfolding head_good
head_cut bytes b be f = rw (← be, f)

pub head_on : (r : Receiver) (overload : ℕ) (bytes text : List ℕ) (b : Bool) → b ≡ head_good bytes → b ≡ true → on_to Settings r overload text ≡ head_of r overload bytes text
unfolding head_of
head_on r overload bytes text b e t = cond_yes (head_good bytes) _ _ (sym e ∙ t)

pub head_off : (r : Receiver) (overload : ℕ) (bytes text : List ℕ) (b : Bool) (x : Ran) → b ≡ head_good bytes → b ≡ false → x ≡ malformed r overload text → x ≡ head_of r overload bytes text
unfolding head_of
head_off r overload bytes text b x e f h = cond_no (head_good bytes) _ _ x (sym e ∙ f) h

-- ---- the settings
set_up_not : (e : Refusal) (r : Receiver) (overload : ℕ) (text : List ℕ) (after : List Float) → refused_ran (number_of e) r overload (written_of 0 text) ≡ set_up_ran (setup_now (Err e) after) r overload text
set_up_not e r overload text after = cond_no (eqb (number_of e) 0) _ _ _ (number_not e) refl

table_is : (s : Result Receiver Refusal) (after : List Float) → after ≡ (setup_now s after).table
table_is (Ok r) after = refl
table_is (Err e) after = refl

block_not : (e : Refusal) (left : ℕ) (r : Receiver) (overload : ℕ) (text : List ℕ) → refused_ran (number_of e) r overload (written_of 0 text) ≡ block_ran left (told_now (Err e) r text) overload
block_not e left r overload text = cond_no (eqb (number_of e) 0) _ _ _ (number_not e) refl

module _ (bytes : List ℕ) (table : List Float) (b : Bool) (be : b ≡ eqb (length bytes) 16) where
  pub table_cut : b ≡ false → table ≡ settings_table bytes table
  unfolding settings_table
  table_cut f = cond_no (eqb (length bytes) 16) _ _ table (sym be ∙ f) refl

  pub settings_cut : (r : Receiver) (overload : ℕ) (text : List ℕ) (x : Ran) → b ≡ false → x ≡ malformed r overload text → x ≡ settings_of r overload bytes table text
  unfolding settings_of
  settings_cut r overload text x f h = cond_no (eqb (length bytes) 16) _ _ x (sym be ∙ f) h

  module _ (t : b ≡ true) (s : Result Receiver Refusal) (after : List Float) (rate offset : Float) (re : rate ≡ of_bits binary64 (word_at 8 bytes 0)) (oe : offset ≡ of_bits binary64 (word_at 8 bytes 8))
      (se : setup_now s after ≡ setup_of rate offset (pos 0) table) where
    setup_is : setup_now s after ≡ set_up_of bytes table
    unfolding set_up_of
    setup_is = se ∙ ap (λ (x : Float). setup_of x offset (pos 0) table) re ∙ ap (λ (x : Float). setup_of (of_bits binary64 (word_at 8 bytes 0)) x (pos 0) table) oe

    pub table_made : after ≡ settings_table bytes table
    unfolding settings_table
    table_made = cond_then (eqb (length bytes) 16) _ _ after (sym be ∙ t) (table_is s after ∙ ap (λ (u : SetUp). u.table) setup_is)

    module _ (r : Receiver) (overload : ℕ) (text : List ℕ) where
      made : (x : Ran) → x ≡ set_up_ran (setup_now s after) r overload text → x ≡ settings_of r overload bytes table text
      unfolding settings_of
      made x h = cond_then (eqb (length bytes) 16) _ _ x (sym be ∙ t) (h ∙ ap (λ (u : SetUp). set_up_ran u r overload text) setup_is)

      pub settings_on : (q : Receiver) → s ≡ Ok q → on_to Count q overload text ≡ settings_of r overload bytes table text
      settings_on q e = made _ (ap (λ (u : Result Receiver Refusal). set_up_ran (setup_now u after) r overload text) (sym e))

      pub settings_refused : (x : Ran) (e : Refusal) → s ≡ Err e → x ≡ refused_ran (number_of e) r overload (written_of 0 text) → x ≡ settings_of r overload bytes table text
      settings_refused x e h k = made x (k ∙ set_up_not e r overload text after ∙ ap (λ (u : Result Receiver Refusal). set_up_ran (setup_now u after) r overload text) (sym h))

-- ---- the count of samples
pub count_on : (r : Receiver) (overload : ℕ) (bytes text : List ℕ) (b : Bool) (n : ℕ) (s : Stage) → b ≡ eqb (length bytes) 4 → b ≡ true → n ≡ word_at 4 bytes 0 → s ≡ stage_of n
    → on_to s r overload text ≡ count_of r overload bytes text
unfolding count_of
count_on r overload bytes text b n s be t ne se =
    cond_then (eqb (length bytes) 4) _ _ _ (sym be ∙ t) (ap (λ (x : Stage). on_to x r overload text) (se ∙ ap stage_of ne))

pub count_cut : (r : Receiver) (overload : ℕ) (bytes text : List ℕ) (b : Bool) (x : Ran) → b ≡ eqb (length bytes) 4 → b ≡ false → x ≡ malformed r overload text → x ≡ count_of r overload bytes text
unfolding count_of
count_cut r overload bytes text b x be f h = cond_no (eqb (length bytes) 4) _ _ x (sym be ∙ f) h

pub count_moves : (overload n : ℕ) (s : Stage) → n < 4294967296 → s ≡ stage_of n → Moves Count overload s overload
count_moves overload n s h e =
    let a = stage_left (ltb 0 n) n in
    let b = stage_rest (ltb 0 n) n in
    rw e (record { few = omega arith; less = omega arith })

-- ---- a block
module _ (left : ℕ) (r : Receiver) (overload : ℕ) (bytes : List ℕ) (table : List Float) (text : List ℕ) (n : ℕ) (ne : n ≡ next_of left) (b : Bool) (be : b ≡ eqb (length bytes) (8 * n)) where
  whole_is : b ≡ eqb (length bytes) (8 * next_of left)
  whole_is = be ∙ ap (λ (k : ℕ). eqb (length bytes) (8 * k)) ne

  pub samples_cut : (x : Ran) → b ≡ false → x ≡ malformed r overload text → x ≡ samples_of left r overload bytes table text
  unfolding samples_of
  samples_cut x f h = cond_no (eqb (length bytes) (8 * next_of left)) _ _ x (sym whole_is ∙ f) h

  module _ (t : b ≡ true) (x : Result Taken Refusal) (after : Receiver) (left_text : List ℕ) (xe : told_now x after left_text ≡ told_of r table bytes n text) where
    ran : (y : Ran) → y ≡ block_ran left (told_now x after left_text) overload → y ≡ samples_of left r overload bytes table text
    unfolding samples_of
    ran y h =
        cond_then (eqb (length bytes) (8 * next_of left)) _ _ y (sym whole_is ∙ t)
        (h ∙ ap (λ (u : Told). block_ran left u overload) (xe ∙ ap (λ (k : ℕ). told_of r table bytes k text) ne))

    pub samples_on : (a : Taken) (s : Stage) → x ≡ Ok a → s ≡ stage_of (left - n)
        → ◌≡◌ {A = Ran} (record { stage = s; receiver = after; overload = overload + a.overload; text = written_of a.end left_text }) (samples_of left r overload bytes table text)
    samples_on a s e se = ran _
        (ap (λ (u : Stage). record { stage = u; receiver = after; overload = overload + a.overload; text = written_of a.end left_text }) (se ∙ ap (λ (k : ℕ). stage_of (left - k)) ne)
        ∙ ap (λ (u : Result Taken Refusal). block_ran left (told_now u after left_text) overload) (sym e))

    pub samples_refused : (y : Ran) (e : Refusal) → x ≡ Err e → y ≡ refused_ran (number_of e) after overload (written_of 0 left_text) → y ≡ samples_of left r overload bytes table text
    samples_refused y e h k = ran y (k ∙ block_not e left after overload left_text ∙ ap (λ (u : Result Taken Refusal). block_ran left (told_now u after left_text) overload) (sym h))

pub samples_moves : (left overload n more : ℕ) (s : Stage) → n ≡ next_of left → 0 < left → more ≤ n → s ≡ stage_of (left - n) → Moves (Samples left) overload s (overload + more)
samples_moves left overload n more s ne h m e =
    let a = stage_left (ltb 0 (left - n)) (left - n) in
    let b = stage_rest (ltb 0 (left - n)) (left - n) in
    rw e (record { few = omega arith; less = omega arith })

-- ---- the end
pub end_closed : (r : Receiver) (overload : ℕ) (bytes text : List ℕ) (b : Bool) (end : ℕ) (after : List ℕ) → b ≡ eqb (length bytes) 0 → b ≡ true
    → written_of end after ≡ put (closing_of (totals_of r.chain overload)) (written_of 0 text)
    → ran_now (record { stage = Done; receiver = r; overload = overload; end = end }) after ≡ end_of r overload bytes text
unfolding end_of
end_closed r overload bytes text b end after be t w =
    cond_then (eqb (length bytes) 0) _ _ _ (sym be ∙ t) (ap (λ (x : Written). record { stage = Done; receiver = r; overload = overload; text = x }) w)

pub end_more : (r : Receiver) (overload : ℕ) (bytes text : List ℕ) (b : Bool) (x : Ran) → b ≡ eqb (length bytes) 0 → b ≡ false → x ≡ malformed r overload text → x ≡ end_of r overload bytes text
unfolding end_of
end_more r overload bytes text b x be f h = cond_no (eqb (length bytes) 0) _ _ x (sym be ∙ f) h

-- ---- what is waited for
pub wanted_samples : (s : Stage) (left n : ℕ) → s ≡ Samples left → n ≡ next_of left → 8 * n ≡ wanted_of s
wanted_samples s left n e ne = rw (e, ne)

-- as many bytes as are read of what came whole
pub whole_room : (n k m : ℕ) (b : Bool) → b ≡ eqb n k → b ≡ true → m ≤ k → m ≤ n
whole_room n k m b e t h = let q : n ≡ k = eqb-true n k (sym e ∙ t) in omega arith

pub wanted_most : (s : Stage) → wanted_of s ≤ 8192
wanted_most Head = omega arith
wanted_most Settings = omega arith
wanted_most Count = omega arith
wanted_most (Samples left) = omega arith
wanted_most End = omega arith
wanted_most Done = omega arith

-- ---- a step from the stage that it finds
abbrev Steps : Stage → Receiver → ℕ → List ℕ → List Float → List ℕ → Program → List Float → List ℕ → Type 0
Steps s r overload bytes table text q made after =
    (ran_now q after ≡ step_of s r overload bytes table text)
    × ((made ≡ table_of s bytes table) × ((q.end ≤ 24606) × ((length after ≡ length text) × Moves s overload q.stage q.overload)))

module _ (s : Stage) (r : Receiver) (overload : ℕ) (bytes : List ℕ) (table : List Float) (text : List ℕ) (q : Program) (after : List ℕ) where
  pub from_head : s ≡ Head → (ran_now q after ≡ head_of r overload bytes text) × ((q.end ≤ 30) × ((length after ≡ length text) × Moves Head overload q.stage q.overload)) → Steps s r overload bytes table text q table after
  from_head e h = let n = h.1.0 in subst (λ (x : Stage). Steps x r overload bytes table text q table after) (sym e) (h.0, (refl, (omega arith, h.1.1)))

  pub from_settings : (made : List Float) → s ≡ Settings → (ran_now q after ≡ settings_of r overload bytes table text)
      × ((made ≡ settings_table bytes table) × ((q.end ≤ 30) × ((length after ≡ length text) × Moves Settings overload q.stage q.overload))) → Steps s r overload bytes table text q made after
  from_settings made e h = let n = h.1.1.0 in subst (λ (x : Stage). Steps x r overload bytes table text q made after) (sym e) (h.0, (h.1.0, (omega arith, h.1.1.1)))

  pub from_count : s ≡ Count → (ran_now q after ≡ count_of r overload bytes text) × ((q.end ≤ 30) × ((length after ≡ length text) × Moves Count overload q.stage q.overload)) → Steps s r overload bytes table text q table after
  from_count e h = let n = h.1.0 in subst (λ (x : Stage). Steps x r overload bytes table text q table after) (sym e) (h.0, (refl, (omega arith, h.1.1)))

  pub from_samples : (left : ℕ) → s ≡ Samples left → (ran_now q after ≡ samples_of left r overload bytes table text)
      × ((q.end ≤ 24606) × ((length after ≡ length text) × Moves (Samples left) overload q.stage q.overload)) → Steps s r overload bytes table text q table after
  from_samples left e h = subst (λ (x : Stage). Steps x r overload bytes table text q table after) (sym e) (h.0, (refl, h.1))

  pub from_end : s ≡ End → (ran_now q after ≡ end_of r overload bytes text) × ((q.end ≤ 120) × ((length after ≡ length text) × Moves End overload q.stage q.overload)) → Steps s r overload bytes table text q table after
  from_end e h = let n = h.1.0 in subst (λ (x : Stage). Steps x r overload bytes table text q table after) (sym e) (h.0, (refl, (omega arith, h.1.1)))

-- a stage of samples has some left, and counts no overload too many
pub samples_asks : (s : Stage) (left overload : ℕ) → s ≡ Samples left → 0 < wanted_of s → overload + left_of s ≤ 4294967295 → (0 < left) × (overload + left ≤ 4294967295)
samples_asks s left overload e h k =
    let a : 0 < wanted_of (Samples left) = subst (λ (x : Stage). 0 < wanted_of x) e h in
    let b : overload + left_of (Samples left) ≤ 4294967295 = subst (λ (x : Stage). overload + left_of x ≤ 4294967295) e k in
    (omega arith, b)

pub done_waits : {A : Type 0} (s : Stage) → s ≡ Done → 0 < wanted_of s → A
done_waits s e h = let a : 0 < wanted_of Done = subst (λ (x : Stage). 0 < wanted_of x) e h in absurd (omega arith)

-- ---- gone on after a step, or stopped
pub moves_gone : (s : Stage) (o : ℕ) (q x : Program) (written : Bool) → Moves s o q.stage q.overload → x ≡ gone_on q written → Moves s o x.stage x.overload
moves_gone s o q x true m e = rw e m
moves_gone s o q x false m e = let a = m.few in let b = m.less in rw e (record { few = omega arith; less = omega arith })

-- the bytes read at once
pub wanted_fits : (s : Stage) (want : ℕ) → want ≡ wanted_of s → want ≤ 8192
wanted_fits s want e = rw e (wanted_most s)

-- ---- turn after turn
pub started_fits : (p : Program) → p ≡ started_of → p.overload + left_of p.stage ≤ 4294967295
started_fits p e = rw e (omega arith)

pub still_waits : (s t : Stage) (want : ℕ) → s ≡ t → want ≡ wanted_of s → 0 < want → 0 < wanted_of t
still_waits s t want e w h = subst (λ (x : Stage). 0 < wanted_of x) e (rw (← w) h)

pub moves_fit : (s : Stage) (o : ℕ) (t : Stage) (q : ℕ) → Moves s o t q → o + left_of s ≤ 4294967295 → q + left_of t ≤ 4294967295
moves_fit s o t q m h = let a = m.few in omega arith
