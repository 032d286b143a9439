-- `replay_program::answered` is safe and ends.
use mathlib.Core.Path.{sym}
use lib.Seq.{length-take-le}
use borrow.Author.Rules.{rules}
use Rattle.replay_program.proofs.answered.Goals as goal

pub slice_bounds-played-end-2 : goal.slice_bounds-played-end-2
slice_bounds-played-end-2 c = sym (length-take-le _ _ (search rules))
