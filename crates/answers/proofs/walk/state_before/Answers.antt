-- `state_before` meets its contract: 31 turns, each to a parent below 64.
use Prim.Native.Nat.{◌+◌, ◌-◌, ◌*◌, ◌%◌}
use native.Mathlib.Omega.{arith}
use Rattle.laws.specs.Turns.{turns_start, turns_step, turns_end}
use Rattle.answers.specs.Walk.{state_before_of}
use borrow.Author.Rules.{rules}
use Rattle.answers.proofs.walk.state_before.Goals as goal

pub loop-k-init : goal.loop-k-init
loop-k-init c = (turns_start _ _, search rules)

pub overflow_cast-state : goal.overflow_cast-state
overflow_cast-state c = omega (arith, c.requires.2.below (64 * ((c.args.newest + 32 - c.loop-k.k) % 32) + c.loop-k.state) (omega arith))

pub loop-k-preserved : goal.loop-k-preserved
loop-k-preserved c = (turns_step _ _ _ _ c.loop-k.invariant.0, c.requires.2.below (64 * ((c.args.newest + 32 - c.loop-k.k) % 32) + c.loop-k.state) (omega arith))

pub returns : goal.returns
unfolding state_before_of
returns c = turns_end _ _ 31 _ _ c.loop-k.invariant.0 (search rules) (search rules)
