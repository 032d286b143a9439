-- `choice::interleave_priors` meets its contract: each turn of the loop writes the four states that share a q, and each prior fits a byte.
use Prim.Native.Nat.{◌+◌}
use native.Mathlib.Omega.{arith}
use Rattle.laws.specs.Turns.{turns_start, turns_step}
use Rattle.arrivals.specs.Runs.{fours_turn, fours_end}
use borrow.Author.Rules.{rules}
use Rattle.arrivals.proofs.choice.interleave_priors.Goals as goal

pub loop-q-init : goal.loop-q-init
loop-q-init c = turns_start _ _

pub overflow_cast-out : goal.overflow_cast-out
overflow_cast-out c = omega (arith, c.requires.below c.loop-q.q (omega arith))

pub overflow_cast-out-in-loop-q : goal.overflow_cast-out-in-loop-q
overflow_cast-out-in-loop-q c =
    let priors = c.requires in
    let q = c.loop-q.q in
    omega (arith, priors.below (16 + q) (omega arith))

pub overflow_cast-out-in-loop-q-2 : goal.overflow_cast-out-in-loop-q-2
overflow_cast-out-in-loop-q-2 c =
    let priors = c.requires in
    let q = c.loop-q.q in
    omega (arith, priors.below (32 + q) (omega arith))

pub overflow_cast-out-in-loop-q-3 : goal.overflow_cast-out-in-loop-q-3
overflow_cast-out-in-loop-q-3 c =
    let priors = c.requires in
    let q = c.loop-q.q in
    omega (arith, priors.below (48 + q) (omega arith))

pub loop-q-preserved : goal.loop-q-preserved
unfolding fours_turn
loop-q-preserved c =
    let woven = c.loop-q.invariant in
    turns_step _ _ _ _ woven

pub returns : goal.returns
returns c = fours_end _ 0 _ _ _ c.loop-q.invariant (search rules) (search rules) (search rules)
