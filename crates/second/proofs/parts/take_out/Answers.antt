-- `take_out` meets its contract: five copies.
use Rattle.second.specs.Parts.{taken_is}
use Rattle.second.proofs.parts.take_out.Goals as goal

pub returns : goal.returns
returns c =
    taken_is _ _ _ _ _ _ c.copy_from_slice.ensures.after c.copy_from_slice-2.ensures.after c.copy_from_slice-3.ensures.after c.copy_from_slice-4.ensures.after c.copy_from_slice-5.ensures.after
