-- `signal::rows::exchange_row` meets its contract: writing a row and dividing the next into its places is the same as one after the other, since a turn reads its places before it writes them.
use Rattle.std.proofs.Common.{rules}
use Rattle.laws.specs.Turns.{turns_start, turns_step, turns_end}
use Rattle.signal.proofs.RowLaws.{usual_ahead, exchange_turn}
use Rattle.signal.proofs.rows.exchange_row.Goals as goal

pub loop-j-init : goal.loop-j-init
loop-j-init c = (turns_start _ _, turns_start _ _, turns_start _ _)

pub quotient-requires : goal.quotient-requires
quotient-requires c = let p = c.requires in record { x_value = p.plain_run.real _ c.loop-j-test.true; plain_amplitude = p.plain_amplitude }

pub quotient-requires-in-loop-j : goal.quotient-requires-in-loop-j
quotient-requires-in-loop-j c =
    let more = c.loop-j-test.true in
    let p = c.requires in record { x_value = p.plain_run.imaginary _ more; plain_amplitude = p.plain_amplitude }

pub write_point-sum-requires : goal.write_point-sum-requires
write_point-sum-requires c =
    let so_far = c.loop-j.invariant in
    let more = c.loop-j-test.true in
    let u = usual_ahead c.args.real.now c.args.imaginary.now c.args.amplitude c.args.next _ _ _ so_far.0 more c.requires.usual_row in
    record { at_bound = search rules; at_in_bounds = search rules; usual_x = u.0; usual_y = u.1 }

pub loop-j-preserved : goal.loop-j-preserved
loop-j-preserved c =
    let more = c.loop-j-test.true in
    let is_quotient2 = c.quotient-in-loop-j.ensures in
    let is_quotient = c.quotient.ensures in
    let a = c.args in
    let v = c.loop-j.invariant in
    let w = c.write_point-sum.ensures in
    let r = exchange_turn a.real.now a.imaginary.now a.amplitude a.next _ _ _ v.0 more _ _ _ _ _ _ _ v.1 v.2 w.errors w.written in (
      rw (is_quotient2.same, is_quotient.same) (turns_step _ _ _ _ v.0),
      r.0,
      r.1,
    )

pub returns : goal.returns
returns c =
    let v = c.loop-j.invariant in record { errors = turns_end _ _ _ _ _ v.1 (search rules) (search rules); written = turns_end _ _ _ _ _ v.2 (search rules) (search rules); divided = turns_end _ _ _ _ _ v.0 (search rules) (search rules) }
