-- `checked_block` meets its contract: the checks 3, 4, 6 and 5, the first that applies by its number.
use Rattle.checks.specs.Ways.{counted, short_floats, later_table, later_count, later_room, later_accepted, later_sample}
use native.Mathlib.Omega.{arith}
use Rattle.checks.proofs.block.checked_block.Goals as goal

pub returns-then-table-arm : goal.returns-then-table-arm
returns-then-table-arm c = later_table _ _ _ _ _ _ c.if-table-arm.true

pub returns-then-count_is_refused : goal.returns-then-count_is_refused
returns-then-count_is_refused c = later_count _ _ _ _ _ _ _ (omega (arith, c.if-table-arm.false)) c.count_is_refused.ensures c.if-count_is_refused.true

pub room_is_refused-requires : goal.room_is_refused-requires
room_is_refused-requires c = (counted _ _ _ c.count_is_refused.ensures c.if-count_is_refused.false).few

pub returns-then-room_is_refused : goal.returns-then-room_is_refused
returns-then-room_is_refused c =
    later_room _ _ _ _ _ _ _ (omega (arith, c.if-table-arm.false)) c.count_is_refused.ensures _ c.if-count_is_refused.false c.room_is_refused.ensures c.if-room_is_refused.true

pub measured-l-requires : goal.measured-l-requires
measured-l-requires c = short_floats _ _ (counted _ _ _ c.count_is_refused.ensures c.if-count_is_refused.false)

pub returns-then-l : goal.returns-then-l
returns-then-l c =
    later_accepted _ _ _ _ _ _ _ (omega (arith, c.if-table-arm.false)) c.count_is_refused.ensures _ c.if-count_is_refused.false c.room_is_refused.ensures _ c.if-room_is_refused.false c.measured-l.ensures c.if-l.true

pub returns-else-l : goal.returns-else-l
returns-else-l c =
    later_sample _ _ _ _ _ _ _ (omega (arith, c.if-table-arm.false)) c.count_is_refused.ensures _ c.if-count_is_refused.false c.room_is_refused.ensures _ c.if-room_is_refused.false c.measured-l.ensures c.if-l.false
