-- `fed` meets its contract: the step is taken over the bytes that were read.
use mathlib.Core.Path.{sym}
use lib.Seq.{length-take-le}
use borrow.Author.Rules.{rules}
use Rattle.receive.proofs.fed.Goals as goal

pub slice_bounds-stepped-end-2 : goal.slice_bounds-stepped-end-2
slice_bounds-stepped-end-2 c = sym (length-take-le _ _ (search rules))

pub returns : goal.returns
returns c =
    let e = c.stepped-program.ensures in
    record { within = search rules; same = e.same; made = e.made; near = e.near; kept = e.kept; on = e.on }
