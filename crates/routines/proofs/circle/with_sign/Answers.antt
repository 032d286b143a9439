-- `circle::with_sign` meets its contract: negated where the sign is set.
use Rattle.std.proofs.Common.{sym, refl, ◌∙◌}
use Rattle.laws.specs.Branches.{cond_then, cond_no}
use Rattle.routines.proofs.circle.with_sign.Goals as goal

pub returns-then-is_negative : goal.returns-then-is_negative
returns-then-is_negative c = cond_then _ _ _ _ (sym c.is_negative.ensures ∙ c.if-is_negative.true) refl

pub returns-else-is_negative : goal.returns-else-is_negative
returns-else-is_negative c = cond_no _ _ _ _ (sym c.is_negative.ensures ∙ c.if-is_negative.false) refl
