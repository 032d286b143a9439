-- `peak::envelopes` meets its contract: the invariant is the first k envelopes filled.
use mathlib.Core.Path.{ap}
use lib.ListN.{set}
use lib.Ieee.{Float, nan}
use Rattle.laws.specs.Places.{fill_start, fill_step, fill_end}
use Rattle.peak.specs.Peak.{envelopes_of}
use borrow.Author.Rules.{rules}
use Rattle.peak.proofs.envelopes.Goals as goal

pub loop-k-init : goal.loop-k-init
loop-k-init c = fill_start _ _

pub loop-k-preserved : goal.loop-k-preserved
loop-k-preserved c =
    let turn = c.loop-k in
    fill_step _ _ _ _ _ (ap (λ (x : Float). set turn.out turn.k x) c.envelope.ensures) turn.invariant

pub returns : goal.returns
unfolding envelopes_of
returns c = fill_end _ c.loop-k.k 64 _ _ nan c.loop-k.invariant (search rules) (search rules) (search rules)
