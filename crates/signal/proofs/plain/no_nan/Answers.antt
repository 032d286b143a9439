-- `signal::plain::no_nan` meets its contract: x is unlike itself exactly where it is a NaN.
use Rattle.std.proofs.Common.{sym, refl, ◌∙◌}
use lib.Ieee.{of_bits, div, is_nan}
use Rattle.laws.specs.Branches.{cond_yes, cond_no}
use Rattle.numbers.specs.Laws.{ne_self, no_nan}
use Rattle.signal.proofs.plain.no_nan.Goals as goal

pub returns-then-x : goal.returns-then-x
unfolding of_bits div is_nan
returns-then-x c = record { same = cond_yes _ _ _ (sym (ne_self _) ∙ c.if-x.true); number = tt }

pub returns-else-x : goal.returns-else-x
returns-else-x c = record { same = cond_no _ _ _ _ (sym (ne_self _) ∙ c.if-x.false) refl; number = no_nan _ c.if-x.false }
