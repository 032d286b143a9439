-- `noted` meets its contract: nothing for a silent answer, a dibit and its pair for another.
use native.Mathlib.Omega.{arith}
use lib.ListN.{length-set}
use Rattle.delivery.specs.Laws.{noted_silent, noted_dibit}
use Rattle.delivery.proofs.step.noted.Goals as goal

pub returns-in_default : goal.returns-in_default
returns-in_default c = noted_silent _ _ c.in_default.is

pub bounds-reliabilities-written-2 : goal.bounds-reliabilities-written-2
bounds-reliabilities-written-2 c = simp length-set (omega (arith, c.requires.reliabilities))

pub returns : goal.returns
returns c = noted_dibit _ _ _ c.in-Some.is
