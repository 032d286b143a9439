-- A detector with a tracker, whichever it is: the skeleton, and the memory of the tracker that makes each step's channels. Definitions only.
use Rattle.std.specs.Prelude.{ℕ, Bool, List, [], ◌∷◌, Option}
use Rattle.complex.specs.declared.Complex32.{Complex32}
use Rattle.complex.specs.Planes.{Planes}
use Rattle.sequence.specs.Skeleton as Skeleton
use Rattle.answers.specs.declared.walk.Dibit.{Dibit}

-- what a symbol brings
pub record Input : Type 0 where
  pub value : Complex32
  pub reliable : Bool

-- A tracker with a memory M: the channels that it makes for a step before it, and its memory after the step, from each state's parent and prediction.
pub record Tracker (M : Type 0) : Type 0 where
  pub channels : M → Input → Planes
  pub follow : M → List ℕ → Planes → Input → M

pub record Detector (M : Type 0) : Type 0 where
  pub skeleton : Skeleton.Skeleton
  pub memory : M

-- a fresh skeleton, with a tracker's memory at its start
abbrev pub fresh_with : {M : Type 0} → M → Detector M
fresh_with m = record { skeleton = Skeleton.fresh_skeleton; memory = m }

module _ {M : Type 0} (t : Tracker M) where
  -- the step that an input is to the skeleton
  abbrev pub step_of : Detector M → Input → Skeleton.Step
  step_of d i = record { channels = t.channels d.memory i; value = i.value; reliable = i.reliable }

  abbrev pub answer_of : Detector M → Input → Option Dibit
  answer_of d i = Skeleton.answer_of d.skeleton (step_of d i)

  abbrev pub after_of : Detector M → Input → Detector M
  after_of d i = record {
    skeleton = Skeleton.after_of d.skeleton (step_of d i);
    memory = t.follow d.memory (Skeleton.left_of d.skeleton (step_of d i)).row (Skeleton.left_of d.skeleton (step_of d i)).predictions i;
  }

  abbrev pub ran_of : Detector M → List Input → Detector M
  ran_of d [] = d
  ran_of d (i ∷ is) = ran_of (after_of d i) is

  abbrev pub answers_of : Detector M → List Input → List (Option Dibit)
  answers_of d [] = []
  answers_of d (i ∷ is) = answer_of d i ∷ answers_of (after_of d i) is

  -- the steps that the inputs are to the skeleton, with the channels that the tracker makes on the way
  abbrev pub steps_of : Detector M → List Input → List Skeleton.Step
  steps_of d [] = []
  steps_of d (i ∷ is) = step_of d i ∷ steps_of (after_of d i) is
