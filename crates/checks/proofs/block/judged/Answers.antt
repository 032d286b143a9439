-- `judged` meets its contract: check 7, and then the others.
use Rattle.checks.specs.Ways.{judged_ranges, judged_later, judged_state}
use Rattle.checks.proofs.block.judged.Goals as goal

pub returns-then-not-is_admitted : goal.returns-then-not-is_admitted
returns-then-not-is_admitted c = judged_state _ _ _ _ _ _ _ c.is_admitted.ensures _ _ _ _ c.if-not-is_admitted.true

pub checked_block-requires : goal.checked_block-requires
checked_block-requires c =
    let b = judged_ranges _ _ _ _ _ _ _ c.is_admitted.ensures c.if-not-is_admitted.false in
    record { total_bound = b.0; arm_bound = b.1 }

pub returns : goal.returns
returns c = judged_later _ _ _ _ _ _ _ c.is_admitted.ensures _ _ _ _ _ c.if-not-is_admitted.false c.checked_block.ensures
