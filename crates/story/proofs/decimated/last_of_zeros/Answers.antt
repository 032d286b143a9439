-- `story::decimated::last_of_zeros` is safe: each step leaves a counter below d.
use Rattle.story.proofs.decimated.last_of_zeros.Goals as goal

pub loop-n-init : goal.loop-n-init
loop-n-init c = c.requires

pub stepped-s-requires : goal.stepped-s-requires
stepped-s-requires c = c.loop-n.invariant

pub loop-n-preserved : goal.loop-n-preserved
loop-n-preserved c = let e = c.stepped-s.ensures.kept in rw e.by e.early
