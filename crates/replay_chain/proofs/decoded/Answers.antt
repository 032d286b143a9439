-- `replay_chain::decoded` gives places in range.
use native.Mathlib.Omega.{arith}
use borrow.Author.Rules.{rules}
use Rattle.replay_chain.proofs.decoded.Goals as goal

pub word-requires-8 : goal.word-requires-8
word-requires-8 c =
    omega (arith, c.requires)

pub word-requires-9 : goal.word-requires-9
word-requires-9 c =
    omega (arith, c.requires)

pub word-requires-10 : goal.word-requires-10
word-requires-10 c =
    omega (arith, c.requires)

pub returns : goal.returns
returns c =
    record { keeper_head = c.keeper.ensures.0; keeper_fill = c.keeper.ensures.1; alternation = c.carrier_loop.ensures; view_head = search rules; view_count = search rules; locked = omega (arith, c.min.ensures) }
