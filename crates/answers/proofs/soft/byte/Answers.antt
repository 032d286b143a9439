-- `byte` meets its contract: scaled, clamped and cast.
use Rattle.answers.specs.Observed.{byte_of}
use Rattle.answers.proofs.soft.byte.Goals as goal

pub returns : goal.returns
unfolding byte_of
returns c = rw (c.to_u8.ensures, c.clamp.ensures)
