-- `resampled` meets its contract: the value goes in, the pass delivers, and the resampler is admitted again.
use Rattle.std.proofs.Common.{T, rules}
use Rattle.resampler.specs.AdmittedLaws.{delivered_asks, resampled_is, resampled_kept}
use lib.Ieee.{binary64, fits}
use Rattle.resampler.proofs.pass.resampled.Goals as goal

pub delivered-d-requires : goal.delivered-d-requires
delivered-d-requires c =
    let stored : T (fits binary64 c.args.r.next) = search rules in
    let asks = delivered_asks c.args.r c.requires.admitted stored c.requires.index_bound c.pushed-q.result c.pushed-q.ensures.state _ c.requires.arm_in_bounds in
    record { dimensioned = asks.0; passing = asks.1.0; arm_in_bounds = asks.1.1 }

pub returns : goal.returns
returns c =
    let pushed = c.pushed-q in
    let delivered = c.delivered-d in
    let stored : T (fits binary64 c.args.r.next) = search rules in
    record {
      same = resampled_is c.args.r c.requires.admitted stored c.requires.index_bound pushed.result pushed.ensures.state c.args.value
          c.args.table.now c.args.reals.now c.args.imaginaries.now _ _ pushed.ensures.real pushed.ensures.imaginary delivered.result delivered.ensures;
      kept = resampled_kept c.args.r c.requires.admitted stored c.requires.index_bound pushed.result pushed.ensures.state c.args.value
          c.args.table.now c.args.reals.now c.args.imaginaries.now _ _ pushed.ensures.real pushed.ensures.imaginary delivered.result delivered.ensures;
    }
