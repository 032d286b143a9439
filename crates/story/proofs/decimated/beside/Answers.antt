-- `story::decimated::beside` is safe: each step leaves both counters below d.
use Rattle.story.proofs.decimated.beside.Goals as goal

pub loop-i-init : goal.loop-i-init
loop-i-init c = (c.requires.counter_lt_decimation, c.requires.counter_lt_decimation_2)

pub stepped-s-requires : goal.stepped-s-requires
stepped-s-requires c = c.loop-i.invariant.0

pub stepped-t-requires : goal.stepped-t-requires
stepped-t-requires c = c.loop-i.invariant.1

pub loop-i-preserved : goal.loop-i-preserved
loop-i-preserved c =
    let e = c.stepped-s.ensures.kept in let f = c.stepped-t.ensures.kept in (rw e.by e.early, rw f.by f.early)
