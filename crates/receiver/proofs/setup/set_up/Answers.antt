-- `set_up` meets its contract: checks 1, 2 and 3 in turn, then the table is written and the state is fresh.
use mir.Facts.{to_z-of_z}
use Rattle.checks.specs.Ways.{rate_admitted}
use Rattle.receiver.specs.Ways.{setup_rate, setup_offset, setup_table, setup_accepted}
use native.Mathlib.Omega.{arith}
use Rattle.receiver.proofs.setup.set_up.Goals as goal

pub returns-then-rate_is_refused : goal.returns-then-rate_is_refused
returns-then-rate_is_refused c = setup_rate _ _ _ _ _ c.rate_is_refused.ensures c.if-rate_is_refused.true

pub returns-then-offset_is_refused : goal.returns-then-offset_is_refused
returns-then-offset_is_refused c =
    setup_offset _ _ _ _ _ _ c.rate_is_refused.ensures c.if-rate_is_refused.false c.offset_is_refused.ensures c.if-offset_is_refused.true

pub sized-d-requires : goal.sized-d-requires
sized-d-requires c = rate_admitted _ _ c.rate_is_refused.ensures c.if-rate_is_refused.false

pub returns-then-table-d : goal.returns-then-table-d
returns-then-table-d c =
    setup_table _ _ _ _ _ _ _ c.rate_is_refused.ensures c.if-rate_is_refused.false c.offset_is_refused.ensures c.if-offset_is_refused.false c.sized-d.ensures.same c.if-table-d.true

pub returns : goal.returns
returns c =
    setup_accepted _ _ _ _ _ _ _ _ _ _ c.rate_is_refused.ensures c.if-rate_is_refused.false c.offset_is_refused.ensures c.if-offset_is_refused.false c.sized-d.ensures.same (omega
    (arith, c.if-table-d.false)) c.write_table.ensures c.front_at-front.ensures (rw (to_z-of_z c.ranges.profile) at c.fresh.ensures)
