-- `step::extend` meets its contract: four sweeps, one for each symbol, give each state's first cheapest branch, and these are brought into the order of the states.
use mathlib.Core.Path.{refl}
use lib.Ieee.{nan}
use Rattle.arrivals.specs.Laws.{extend_is, priors_small}
use Rattle.arrivals.specs.Runs.{tiers_start, tiers_step}
use borrow.Author.Rules.{rules}
use Rattle.trellis.proofs.step.extend.Goals as goal

pub loop-k-init : goal.loop-k-init
loop-k-init c = (tiers_start _ _, tiers_start _ _, tiers_start _ _, tiers_start _ _)

pub loop-k-preserved : goal.loop-k-preserved
loop-k-preserved c =
    let laid = c.loop-k.invariant in
    let swept = c.sweep.ensures in (
      tiers_step _ _ _ _ _ swept.0 laid.0,
      tiers_step _ _ _ _ _ swept.1 laid.1,
      tiers_step _ _ _ _ _ swept.2 laid.2,
      tiers_step _ _ _ _ _ swept.3 laid.3,
    )

pub interleave_priors-requires : goal.interleave_priors-requires
interleave_priors-requires c =
    let priors = c.loop-k.invariant.1 in
    priors_small _ _ _ _ _ _ _ _ priors (search rules) (search rules) refl

pub returns : goal.returns
returns c =
    let past = c.past_terms.ensures in
    let laid = c.loop-k.invariant in
    let costs = c.interleave.ensures in
    let priors = c.interleave_priors.ensures in
    record {
      reads = (
        extend_is (λ b. b.cost) nan _ _ _ _ _ _ _ _ _ past.0 past.1 laid.0 (search rules) (search rules) refl costs,
        extend_is (λ b. b.prior) 0 _ _ _ _ _ _ _ _ _ past.0 past.1 laid.1 (search rules) (search rules) refl priors,
        extend_is (λ b. b.real) nan _ _ _ _ _ _ _ _ _ past.0 past.1 laid.2 (search rules) (search rules) refl c.interleave-2.ensures,
        extend_is (λ b. b.imaginary) nan _ _ _ _ _ _ _ _ _ past.0 past.1 laid.3 (search rules) (search rules) refl c.interleave-3.ensures,
      );
      values = record { value = search rules };
    }
