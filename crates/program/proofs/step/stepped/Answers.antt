-- `program::step::stepped` meets its contract.
use Rattle.program.specs.StepLaws.{from_head, from_settings, from_count, from_samples, from_end, samples_asks, done_waits}
use Rattle.program.proofs.step.stepped.Goals as goal

pub blocked-requires : goal.blocked-requires
blocked-requires c =
    let b = samples_asks _ _ _ c.in-Samples.is c.requires.stage_nonzero c.requires.stage_bound in
    record { in_bounds = c.requires.in_bounds; left_nonzero = b.0; left_bound = b.1 }

pub returns-in-Head : goal.returns-in-Head
returns-in-Head c =
    let e = c.headed.ensures in
    let b = from_head _ _ _ _ _ _ c.headed.result _ c.in-Head.is (e.same, (e.near, (e.kept, e.on))) in
    record { same = b.0; made = b.1.0; near = b.1.1.0; kept = b.1.1.1.0; on = b.1.1.1.1 }

pub returns-in-Settings : goal.returns-in-Settings
returns-in-Settings c =
    let e = c.set.ensures in
    let b = from_settings _ _ _ _ _ _ c.set.result _ _ c.in-Settings.is (e.same, (e.made, (e.near, (e.kept, e.on)))) in
    record { same = b.0; made = b.1.0; near = b.1.1.0; kept = b.1.1.1.0; on = b.1.1.1.1 }

pub returns-in-Count : goal.returns-in-Count
returns-in-Count c =
    let e = c.counted.ensures in
    let b = from_count _ _ _ _ _ _ c.counted.result _ c.in-Count.is (e.same, (e.near, (e.kept, e.on))) in
    record { same = b.0; made = b.1.0; near = b.1.1.0; kept = b.1.1.1.0; on = b.1.1.1.1 }

pub returns-in-Samples : goal.returns-in-Samples
returns-in-Samples c =
    let e = c.blocked.ensures in
    let b = from_samples _ _ _ _ _ _ c.blocked.result _ _ c.in-Samples.is (e.same, (e.near, (e.kept, e.on))) in
    record { same = b.0; made = b.1.0; near = b.1.1.0; kept = b.1.1.1.0; on = b.1.1.1.1 }

pub returns-in-End : goal.returns-in-End
returns-in-End c =
    let e = c.ended.ensures in
    let b = from_end _ _ _ _ _ _ c.ended.result _ c.in-End.is (e.same, (e.near, (e.kept, e.on))) in
    record { same = b.0; made = b.1.0; near = b.1.1.0; kept = b.1.1.1.0; on = b.1.1.1.1 }

pub returns-in-Done : goal.returns-in-Done
returns-in-Done c =
    done_waits _ c.in-Done.is c.requires.stage_nonzero
