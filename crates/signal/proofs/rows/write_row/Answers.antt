-- `signal::rows::write_row` meets its contract: the invariants are the sum and the floats after j points.
use Rattle.std.proofs.Common.{rules}
use Rattle.laws.specs.Turns.{turns_start, turns_end}
use Rattle.signal.proofs.RowLaws.{row_turn}
use Rattle.signal.proofs.rows.write_row.Goals as goal

pub loop-j-init : goal.loop-j-init
loop-j-init c = (turns_start _ _, turns_start _ _)

pub write_point-sum-requires : goal.write_point-sum-requires
write_point-sum-requires c =
    let p = c.requires.usual_row in
    let t = c.loop-j-test.true in
    record { at_bound = search rules; at_in_bounds = search rules; usual_x = p.real _ t; usual_y = p.imaginary _ t }

pub loop-j-preserved : goal.loop-j-preserved
loop-j-preserved c =
    let args = c.args in
    let v = c.loop-j.invariant in
    let w = c.write_point-sum.ensures in
    let r = row_turn args.row.now _ _ _ _ _ _ _ _ v.0 v.1 w.errors w.written in
    (r.0, r.1)

pub returns : goal.returns
returns c =
    let v = c.loop-j.invariant in
    record { errors = turns_end _ _ _ _ _ v.0 (search rules) (search rules); written = turns_end _ _ _ _ _ v.1 (search rules) (search rules) }
