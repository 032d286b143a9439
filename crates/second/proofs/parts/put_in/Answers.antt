-- `put_in` meets its contract: five copies, each into its part.
use Rattle.second.specs.Parts.{put_is}
use Rattle.second.proofs.parts.put_in.Goals as goal

pub returns : goal.returns
returns c =
    put_is c.args.memory.now _ _ _ _ _ _ _ c.requires.given_parts.memory c.copy_from_slice.ensures.after c.copy_from_slice-2.ensures.after c.copy_from_slice-3.ensures.after c.copy_from_slice-4.ensures.after c.copy_from_slice-5.ensures.after
