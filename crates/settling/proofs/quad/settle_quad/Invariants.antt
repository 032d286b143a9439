-- `settling::quad::settle_quad` meets its contract.
use mathlib.Core.Path.{◌≡◌}
use Prim.Native.Nat.{◌+◌, ◌*◌, ◌/◌}
use mathlib.Core.List.{List}
use lib.Ieee.{Float}
use Rattle.settling.specs.Layout.{swept, pair_turn, settled_number}
use Rattle.settling.proofs.quad.settle_quad.Given as goal

abbrev pub invariant-loop-j : goal.invariant-loop-j
invariant-loop-j l = (list : List Float) → l.initial.next ≡ swept (pair_turn (l.base / 256)) (8 * l.i + l.initial.j) (settled_number l.w l.gain l.row) list → l.next ≡ swept (pair_turn (l.base / 256)) (8 * l.i + l.j) (settled_number l.w l.gain l.row) list

abbrev pub invariant-loop-i : goal.invariant-loop-i
invariant-loop-i l = l.next ≡ swept (pair_turn (l.base / 256)) (8 * l.i + l.i) (settled_number l.w l.gain l.row) l.initial.next
