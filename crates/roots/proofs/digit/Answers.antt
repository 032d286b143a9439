-- `digit` meets its contract: 1 where the test holds, and else 0.
use Rattle.std.proofs.Common.{ℕ, Bool, cond, leb, sym, ap, le→leb}
use lib.Arith.{lt→nleb}
use lib.Ieee.Bits.{is_true, is_false}
use Rattle.roots.proofs.digit.Goals as goal

pub returns-then-c-a : goal.returns-then-c-a
returns-then-c-a c = let a = c.args in ap (λ (b : Bool). cond {A = ℕ} b 1 0) (sym (is_true (leb a.c a.a) (le→leb a.c a.a c.if-c-a.true)))

pub returns-else-c-a : goal.returns-else-c-a
returns-else-c-a c = let a = c.args in ap (λ (b : Bool). cond {A = ℕ} b 1 0) (sym (is_false (leb a.c a.a) (lt→nleb a.c a.a c.if-c-a.false)))
