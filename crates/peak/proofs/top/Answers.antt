-- `peak::top` meets its contract: the definition goes by the same comparison.
use mathlib.Core.Path.{refl}
use Rattle.laws.specs.Branches.{cond_yes, cond_no}
use Rattle.peak.specs.Peak.{top_of}
use Rattle.peak.proofs.top.Goals as goal

pub returns-then-e-peak : goal.returns-then-e-peak
unfolding top_of
returns-then-e-peak c = cond_yes _ _ _ c.if-e-peak.true

pub returns-else-e-peak : goal.returns-else-e-peak
unfolding top_of
returns-else-e-peak c = cond_no _ _ _ _ c.if-e-peak.false refl
