-- `walk` meets its contract: silent with fewer than 31 steps before, and else decided where 31 parents lead.
use Rattle.answers.specs.Laws.{walk_silent, walk_full}
use borrow.Author.Rules.{rules}
use Rattle.answers.proofs.walk.walk.Goals as goal

pub returns-then-filled-lt31 : goal.returns-then-filled-lt31
returns-then-filled-lt31 c = walk_silent _ _ _ _ _ _ c.if-filled-lt31.true

pub returns : goal.returns
returns c = walk_full _ _ _ _ _ _ _ _ (search rules) c.state_before-current.ensures c.decided.ensures
