-- `whole::signed` meets its contract: a whole number that the format holds is exact, and the sign is put on.
use Rattle.std.proofs.Common.{Bool, false, sym, ap, ◌∙◌}
use Rattle.std.specs.Float.Ieee.{round, of_int}
use Rattle.whole.proofs.ToWhole.{neg_round}
use Rattle.whole.proofs.signed.Goals as goal

pub returns-then-s : goal.returns-then-s
unfolding of_int
returns-then-s g c = let f = g.F.Width.format in let a = c.args in rw (c.negated.ensures, c.of_whole-y.ensures) (neg_round f false a.w 1 ∙ ap (λ (b : Bool). round f b a.w 1) (sym c.if-s.true))

pub returns-else-s : goal.returns-else-s
unfolding of_int
returns-else-s g c = let f = g.F.Width.format in let a = c.args in rw c.of_whole-y.ensures (ap (λ (b : Bool). round f b a.w 1) (sym c.if-s.false))
