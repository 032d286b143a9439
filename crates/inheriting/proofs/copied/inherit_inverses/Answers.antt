-- `inherit_inverses` meets its contract: after m turns the first 4 m states have their parents' inverses.
use Prim.Native.Nat.{◌+◌, ◌*◌}
use native.Mathlib.Omega.{arith}
use Rattle.inheriting.specs.Laws.{inherit_start, inherit_step, inherit_end}
use borrow.Author.Rules.{rules}
use Rattle.inheriting.proofs.copied.inherit_inverses.Goals as goal

pub loop-m-init : goal.loop-m-init
loop-m-init c = inherit_start _ _ _ _ (search rules)

pub overflow_cast-parents : goal.overflow_cast-parents
overflow_cast-parents c =
    omega (arith, c.requires.states.below (16 * c.args.g + 4 * c.loop-m.m) (search rules))

pub place_of-a-requires : goal.place_of-a-requires
place_of-a-requires c =
    c.requires.states.below (16 * c.args.g + 4 * c.loop-m.m) (search rules)

pub overflow_cast-parents-in-loop-m : goal.overflow_cast-parents-in-loop-m
overflow_cast-parents-in-loop-m c =
    omega (arith, c.requires.states.below (16 * c.args.g + 4 * c.loop-m.m + 1) (search rules))

pub place_of-b-requires : goal.place_of-b-requires
place_of-b-requires c =
    c.requires.states.below (16 * c.args.g + 4 * c.loop-m.m + 1) (search rules)

pub overflow_cast-parents-in-loop-m-2 : goal.overflow_cast-parents-in-loop-m-2
overflow_cast-parents-in-loop-m-2 c =
    omega (arith, c.requires.states.below (16 * c.args.g + 4 * c.loop-m.m + 2) (search rules))

pub place_of-c-requires : goal.place_of-c-requires
place_of-c-requires c =
    c.requires.states.below (16 * c.args.g + 4 * c.loop-m.m + 2) (search rules)

pub overflow_cast-parents-in-loop-m-3 : goal.overflow_cast-parents-in-loop-m-3
overflow_cast-parents-in-loop-m-3 c =
    omega (arith, c.requires.states.below (16 * c.args.g + 4 * c.loop-m.m + 3) (search rules))

pub place_of-d-requires : goal.place_of-d-requires
place_of-d-requires c =
    c.requires.states.below (16 * c.args.g + 4 * c.loop-m.m + 3) (search rules)

pub loop-m-preserved : goal.loop-m-preserved
loop-m-preserved c =
    inherit_step _ _ _ _ _ _ _ _ (search rules) (search rules) c.place_of-a.ensures.same c.place_of-b.ensures.same c.place_of-c.ensures.same c.place_of-d.ensures.same _ _ _
    c.copy_family.ensures c.loop-m.invariant

pub returns : goal.returns
returns c = inherit_end _ _ _ _ _ _ (search rules) c.loop-m.invariant (search rules) (search rules)
