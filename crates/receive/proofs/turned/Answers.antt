-- `turned` meets its contract: the bytes that are waited for have room, the step over them is one turn, and what it answers is written.
use mathlib.Core.Path.{sym}
use lib.Seq.{length-take-le}
use Rattle.program.specs.StepLaws.{wanted_fits, moves_gone}
use Rattle.receive.specs.Laws.{waited_room, turned_is}
use borrow.Author.Rules.{rules}
use Rattle.receive.proofs.turned.Goals as goal

pub slice_bounds-bytes-end : goal.slice_bounds-bytes-end
slice_bounds-bytes-end c = wanted_fits c.args.p.stage _ c.wanted-want.ensures

pub slice_bounds-fed-end : goal.slice_bounds-fed-end
slice_bounds-fed-end c = let h = wanted_fits c.args.p.stage _ c.wanted-want.ensures in sym (length-take-le _ _ (search rules))

pub slice_bounds-write_all-end : goal.slice_bounds-write_all-end
slice_bounds-write_all-end c = sym (length-take-le _ _ (search rules))

pub returns : goal.returns
returns c =
    let fed_says = c.fed-f.ensures in
    let p = c.args.p in
    let fed_left = c.fed-f.new in
    let fed_kept = c.fed-f.auto in
    let wanted_says = c.wanted-want.ensures in
    let fed_gives = c.fed-f.result in
    let room = waited_room p.stage _ _ fed_left.bytes fed_kept.bytes wanted_says in record { turn = turned_is _ _ _ _ _ _ _ fed_says.within room fed_says.same fed_says.made _ c.write_all-written.result c.gone_on.ensures; on = moves_gone _ _ fed_gives.program _ c.write_all-written.result fed_says.on c.gone_on.ensures }
