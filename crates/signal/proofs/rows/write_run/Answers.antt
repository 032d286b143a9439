-- `signal::rows::write_run` meets its contract: the invariants are the sum and the floats after the whole rows so far, and the next row divided.
use Rattle.std.proofs.Common.{◌≡◌, ◌+◌, ◌-◌, refl, arith, rules}
use Rattle.laws.specs.Turns.{turns_start}
use Rattle.signal.proofs.RowLaws.{plain_within, divided, divided_fewer, divided_usual, row_on}
use Rattle.signal.proofs.rows.write_run.Goals as goal

pub divide_row-requires : goal.divide_row-requires
divide_row-requires c =
    let p = c.requires in record { count_bound = search rules; end_bound = search rules; plain_run = plain_within _ _ _ _ 0 _ _ p.plain_run (omega arith) (omega arith); plain_amplitude = p.plain_amplitude }

pub loop-at-init : goal.loop-at-init
loop-at-init c =
    let a = c.args in
    let d = divided a.real.now a.imaginary.now a.amplitude a.from c.min-first.result _ _ (search rules) (search rules) c.divide_row.ensures in
    (search rules, refl, divided_fewer _ _ _ _ (a.from + 0) _ _ _ d (omega arith) (omega arith), turns_start _ _, turns_start _ _)

pub exchange_row-sum-requires : goal.exchange_row-sum-requires
exchange_row-sum-requires c =
    let p = c.requires in let at = c.loop-at.at in
    let d = c.loop-at.invariant.2 in record { next_bound = search rules; done_bound = search rules; done_in_bounds = search rules; usual_row = divided_usual _ _ _ _ _ _ (divided_fewer _ _ _ _ _ _ 32 _ d refl (omega arith)) (plain_within _ _ _ _ at _ _ p.plain_run refl (omega arith)) p.plain_amplitude; plain_run = plain_within _ _ _ _ (at + 32) _ _ p.plain_run (omega arith) (omega arith); plain_amplitude = p.plain_amplitude }

pub loop-at-preserved : goal.loop-at-preserved
loop-at-preserved c =
    let a = c.args in
    let l = c.loop-at in
    let v = l.invariant in
    let w = c.exchange_row-sum.ensures in
    let d = divided_fewer _ _ _ _ _ _ 32 _ v.2 refl (omega arith) in
    let n = divided a.real.now a.imaginary.now a.amplitude (a.from + l.at + 32) 32 _ _ (omega arith) v.2.size w.divided in
    let r = row_on a.real.now a.imaginary.now a.amplitude a.from a.done l.at 32 (l.at + 32) _ d refl _ _ _ _ _ _ v.3 v.4 w.errors w.written in
    (search rules, search rules, divided_fewer _ _ _ _ (a.from + (l.at + 32)) _ _ _ n (omega arith) (omega arith), r.0, r.1)

pub write_row-sum-requires : goal.write_row-sum-requires
write_row-sum-requires c =
    let p = c.requires in let l = c.loop-at in record { count_bound = search rules; end_bound = search rules; count_in_bounds = search rules; usual_row = divided_usual _ _ _ _ _ _ l.invariant.2 (plain_within _ _ _ _ l.at _ _ p.plain_run refl l.invariant.0) p.plain_amplitude }

pub divide_row-requires-2 : goal.divide_row-requires-2
divide_row-requires-2 c =
    let first = c.min-first.result in
    let p = c.requires in let l = c.loop-at in record { count_bound = search rules; end_bound = search rules; plain_run = plain_within _ _ _ _ (l.at + first) _ _ p.plain_run refl (omega arith); plain_amplitude = p.plain_amplitude }

pub write_row-requires : goal.write_row-requires
write_row-requires c =
    let first = c.min-first.result in
    let a = c.args in
    let p = c.requires in let l = c.loop-at in
    let at = l.at + first in
    let d = divided a.real.now a.imaginary.now a.amplitude (a.from + at) (a.count - at) _ _ (omega arith) l.invariant.2.size c.divide_row-2.ensures in record { count_bound = search rules; end_bound = search rules; count_in_bounds = search rules; usual_row = divided_usual _ _ _ _ _ _ d (plain_within _ _ _ _ at _ _ p.plain_run refl (omega arith)) p.plain_amplitude }

pub returns : goal.returns
returns c =
    let is_divide_row2 = c.divide_row-2.ensures in
    let a = c.args in
    let l = c.loop-at in
    let v = l.invariant in
    let first = c.min-first.result in
    let at = l.at + first in
    let d = divided a.real.now a.imaginary.now a.amplitude (a.from + at) (a.count - at) _ _ (omega arith) v.2.size is_divide_row2 in
    let e : at + (a.count - at) ≡ a.count = omega arith in
    let w = c.write_row-sum.ensures in
    let r = row_on a.real.now a.imaginary.now a.amplitude a.from a.done l.at first at _ v.2 refl _ _ _ _ _ _ v.3 v.4 w.errors w.written in
    let z = c.write_row.ensures in
    let t = row_on a.real.now a.imaginary.now a.amplitude a.from a.done at (a.count - at) a.count _ d e _ _ _ _ _ _ r.0 r.1 z.errors z.written in
    record { errors = t.0; written = t.1 }
