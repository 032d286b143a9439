-- `follow::learnt` meets its contract: each of the four taps is moved by its own step and its own symbol.
use Rattle.lms_tracker.specs.Tracker.{learnt_of}
use Rattle.lms_tracker.proofs.learnt.Goals as goal

pub returns : goal.returns
unfolding learnt_of
returns c =
    rw (
      c.moved-4.ensures,
      c.symbol-4.ensures,
      c.moved-3.ensures,
      c.symbol-3.ensures,
      c.moved-2.ensures,
      c.symbol-2.ensures,
      c.moved.ensures,
      c.symbol.ensures,
    )
