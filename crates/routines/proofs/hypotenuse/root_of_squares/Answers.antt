-- `hypotenuse::root_of_squares` meets its contract: squares and sum at the wider format, and the narrowed root of it.
use Rattle.routines.specs.HypotenuseCode.{squares_made}
use Rattle.routines.proofs.hypotenuse.root_of_squares.Goals as goal

pub returns : goal.returns
returns c = squares_made _ _ _ _ _ c.widen-a.ensures c.widen-b.ensures c.narrow_root.ensures
