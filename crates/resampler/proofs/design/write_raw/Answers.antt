-- `write_raw` meets its contract: each turn writes a tap at its place and adds it, and the last tap is added alone.
use Rattle.std.proofs.Common.{◌∙◌, rules}
use Rattle.resampler.specs.Taps.{both_next, raw_from_lem}
use Rattle.laws.specs.Turns.{turns_start}
use Rattle.resampler.proofs.design.write_raw.Goals as goal

pub loop-i-init : goal.loop-i-init
loop-i-init c = turns_start _ _

pub loop-i-preserved : goal.loop-i-preserved
loop-i-preserved c =
    let l = c.loop-i in
    let t = c.raw_tap-tap in
    both_next c.args.omega c.args.arm l.i c.tap_place-place.result c.args.table.now (record { sum = l.sum; table = l.table }) t.result c.widen-sum.result
    l.invariant t.ensures c.widen-sum.ensures c.tap_place-place.ensures.same

pub returns : goal.returns
returns c =
    let l = c.loop-i in
    raw_from_lem c.args.omega c.args.arm c.args.table.now (record { sum = l.sum; table = l.table }) l.i c.widen.result l.invariant (search rules) (search rules) (c.widen.ensures ∙ c.raw_tap.ensures)
