-- `signal::write_plain` meets its contract: the points up to the ring's end and those from its beginning are the points round the ring.
use Rattle.signal.proofs.Windows.{plain_early, plain_late, written_runs}
use Rattle.std.proofs.Common.{rules}
use Rattle.signal.proofs.write_plain.Goals as goal

pub write_run-early-requires : goal.write_run-early-requires
write_run-early-requires c =
    let p = c.requires in record { from_bound = search rules; done_bound = search rules; count_in_bounds = search rules; plain_run = plain_early c.args.start c.args.count _ c.requires.start_bound c.requires.count_bound c.min-first.ensures _ _ p.plain_round; plain_amplitude = p.plain_amplitude }

pub write_run-requires : goal.write_run-requires
write_run-requires c =
    let is_least = c.min-first.ensures in
    let p = c.requires in record { from_bound = search rules; done_bound = search rules; count_in_bounds = search rules; plain_run = plain_late c.args.start c.args.count _ c.requires.start_bound c.requires.count_bound is_least _ _ p.plain_round; plain_amplitude = p.plain_amplitude }

pub returns : goal.returns
returns c =
    let is_least = c.min-first.ensures in
    let is_write_run = c.write_run-early.ensures in
    written_runs c.args.start c.args.count _ c.requires.start_bound c.requires.count_bound is_least
    _ _ _ _ _ _ _ _ c.requires.count_in_bounds
    is_write_run.errors is_write_run.written c.write_run.ensures.errors c.write_run.ensures.written
