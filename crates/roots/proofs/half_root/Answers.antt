-- `half_root` meets its contract: a guess that is confirmed, and else the root digit by digit, halved and rounded up.
use Rattle.std.proofs.Common.{◌≡◌, ℕ, ◌+◌, ◌/◌, ◌%◌, arith}
use Rattle.roots.proofs.half_root.Goals as goal

halved : (w : ℕ) → (w + 1) / 2 ≡ w / 2 + w % 2
halved w = omega arith

pub returns-then-confirmed : goal.returns-then-confirmed
returns-then-confirmed c = c.confirmed.ensures c.if-confirmed.true

pub returns : goal.returns
returns c = record { whole = c.root-w.result; half = halved c.root-w.result; least = c.root-w.ensures.least; most = c.root-w.ensures.most }
