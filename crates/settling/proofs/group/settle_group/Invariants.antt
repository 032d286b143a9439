-- `settling::group::settle_group` meets its contract.
use mathlib.Core.Path.{◌≡◌}
use Rattle.settling.specs.Layout.{swept, quad_turn, lane_turn, settled_number, renewed_number}
use Rattle.settling.proofs.group.settle_group.Given as goal

abbrev pub invariant-loop-m : goal.invariant-loop-m
invariant-loop-m l = l.next ≡ swept (quad_turn l.g) l.m (settled_number l.w l.gain l.row) l.initial.next

abbrev pub invariant-loop-l : goal.invariant-loop-l
invariant-loop-l l = l.next ≡ swept (lane_turn l.g) l.l (renewed_number l.w l.gain l.row l.den) l.initial.next
