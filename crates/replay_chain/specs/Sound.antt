-- The ranges of what a run's head gives, and the state of a run. Definitions only.
use Rattle.std.specs.Prelude.{◌<◌, ◌≤◌}
use Rattle.chain.specs.Chain.{ChainState, state_of}
use Rattle.second.specs.Second.{second_of}
use Rattle.replay_chain.specs.declared.Request.{Request}
use Rattle.replay_chain.specs.declared.Held.{Held}

pub record Sound (q : Request) : Type 0 where
  pub keeper_head : q.keeper.head < 64
  pub keeper_fill : q.keeper.fill ≤ 64
  pub alternation : q.turn.alternation ≤ 7
  pub view_head : q.head < 1024
  pub view_count : q.count ≤ 1024
  pub locked : q.locked ≤ q.symbols

-- the chain of a run, with its second stream
abbrev pub state_now : Held → ChainState
state_now r = state_of r.chained.place r.planes (second_of r.chained.second r.memory r.ancestors)
