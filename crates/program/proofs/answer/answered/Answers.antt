-- `program::answer::answered` meets its contract.
use Prim.Native.Nat.{◌*◌, ◌≤◌}
use mathlib.Core.Path.{sym}
use lib.Seq.{length-take-le}
use Rattle.std.proofs.lemmas.Result.{err_from_is_err_and}
use Rattle.program.specs.Laws.{answered_is, answered_not, taken_most, lines_most, told_few}
use borrow.Author.Rules.{rules}
use Rattle.program.proofs.answer.answered.Goals as goal

pub slice_bounds-take-end : goal.slice_bounds-take-end
slice_bounds-take-end c = sym (length-take-le _ _ (search rules))

pub returns-in_err-b-clause-same : goal.returns-in_err-b-clause-same
returns-in_err-b-clause-same c =
    let p = err_from_is_err_and c.from_residual.result c.from_residual.ensures.1 in
    rw (p.1, p.2) (answered_not c.args.r.now c.args.table.now c.args.bytes.now c.args.samples c.args.text.now _ _ c.take.new.r c.take.new.dibits c.take.new.reliabilities c.floats.ensures c.in_err-b.field-0.0 c.in_err-b.ensures.same)

pub lines-end-requires : goal.lines-end-requires
lines-end-requires c =
    let h : c.in_ok-b.b.count ≤ 2 * c.args.samples = taken_most _ _ _ c.in_ok-b.ensures.most in search rules

pub returns : goal.returns
returns c =
    let same = answered_is _ _ _ _ _ _ _ c.take.new.r _ _ c.floats.ensures c.in_ok-b.b c.lines-end.result _ c.in_ok-b.ensures.same c.lines-end.ensures.same in
    record { same = same; few = told_few _ _ _ _ _ _ same; near = lines_most _ _ _ (taken_most _ _ _ c.in_ok-b.ensures.most) c.lines-end.ensures.near; kept = c.lines-end.ensures.kept }
