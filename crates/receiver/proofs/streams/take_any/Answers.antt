-- `take_any` meets its contract: an accepted block is what `run` leaves of the state's planes, and a refused one changes nothing.
use native.Mathlib.Omega.{arith}
use mir.Syntax.{w32}
use mir.Val.{SFits}
use mir.Facts.{to_z-of_z}
use Rattle.std.specs.Prelude.{Ok, Err}
use Rattle.std.proofs.lemmas.Result.{err_from_is_err_and}
use Rattle.run.specs.Run.{whole_now}
use Rattle.second.specs.Parts.{split_join}
use Rattle.receiver.specs.Block.{rooms_of}
use Rattle.receiver.specs.Accepted.{take_asks, take_total}
use Rattle.receiver.proofs.BlockLaws.{run_asks, run_admitted, judged_rooms, ended_both, take_refused, taken_is}
use borrow.Author.Rules.{rules}
use Rattle.receiver.proofs.streams.take_any.Goals as goal

pub returns-in_err-overload-clause-same : goal.returns-in_err-overload-clause-same
returns-in_err-overload-clause-same c =
    let lent = rooms_of c.args.both c.args.dibits.now c.args.reliabilities.now c.args.others.now c.args.other_reliabilities.now in
    let e = c.in_err-overload.field-0.0 in
    let judged = judged_rooms c.args.r.now _ _ lent (Err e) _ _ c.room.ensures c.room-2.ensures c.in_err-overload.ensures in
    let p = err_from_is_err_and c.from_residual.result c.from_residual.ensures.1 in
    rw (p.1, p.2) (take_refused c.args.r.now c.args.table.now c.args.samples.now lent e judged)

pub run-t-requires : goal.run-t-requires
run-t-requires c =
    let lent = rooms_of c.args.both c.args.dibits.now c.args.reliabilities.now c.args.others.now c.args.other_reliabilities.now in
    let judged = judged_rooms c.args.r.now _ _ lent (Ok c.in_ok-overload.overload) _ _ c.room.ensures c.room-2.ensures c.in_ok-overload.ensures in
    let ready = take_asks c.args.r.now _ _ _ _ _ judged in
    let sizes = c.planes_sized.ensures in
    run_asks c.args.r.now _ _ _ lent ready c.requires (λ on. search rules) (search rules) sizes.real sizes.imaginary sizes.channel_real sizes.channel_imaginary sizes.costs sizes.parents

pub overflow_add-r : goal.overflow_add-r
overflow_add-r c = let total = take_total _ _ _ _ _ _ _ _ _ _ _ c.in_ok-overload.ensures in omega (arith, total)

pub returns-clause-same : goal.returns-clause-same
returns-clause-same c =
    let lent = rooms_of c.args.both c.args.dibits.now c.args.reliabilities.now c.args.others.now c.args.other_reliabilities.now in
    let judged = judged_rooms c.args.r.now _ _ lent (Ok c.in_ok-overload.overload) _ _ c.room.ensures c.room-2.ensures c.in_ok-overload.ensures in
    let fits : SFits w32 c.args.r.now.chain.profile = search rules in
    let conjugated = rw (to_z-of_z fits) at c.is_conjugated.ensures in
    let ended = ended_both c.args.r.now c.args.table.now c.args.samples.now c.in_ok-overload.overload lent _ (whole_now c.run-t.result _ _ _ _ _ _ _ _) _ conjugated c.run-t.ensures.0 (split_join _ (search rules)) in
    (taken_is c.args.r.now c.args.table.now c.args.samples.now lent c.in_ok-overload.overload judged _ _ (whole_now c.run-t.result _ _ _ _ _ _ _ _) _ _ c.run-t.ensures.1 c.snapshot_of.ensures ended).0

pub returns-clause-kept : goal.returns-clause-kept
returns-clause-kept c =
    let lent = rooms_of c.args.both c.args.dibits.now c.args.reliabilities.now c.args.others.now c.args.other_reliabilities.now in
    let judged = judged_rooms c.args.r.now _ _ lent (Ok c.in_ok-overload.overload) _ _ c.room.ensures c.room-2.ensures c.in_ok-overload.ensures in
    let ready = take_asks c.args.r.now _ _ _ _ _ judged in
    run_admitted _ c.args.r.now _ _ _ lent (whole_now c.run-t.result _ _ _ _ _ _ _ _) c.run-t.new.memory ready c.run-t.ensures.1
