-- `sampled` is safe, since what is mixed is no NaN, and keeps the counter below 4,096.
use Rattle.std.proofs.Common.{sym, ap, ◌∙◌, rules}
use Rattle.oscillator.specs.declared.Step.{Step}
use Rattle.oscillator.specs.Laws.{number, still_below}
use Rattle.replay_oscillator.proofs.sampled.Goals as goal

pub stepped-s-requires : goal.stepped-s-requires
stepped-s-requires c = (number _ (sym c.is_nan.ensures ∙ c.if-is_nan.false) (sym c.is_nan-2.ensures ∙ c.if-is_nan-2.false), search rules)

pub returns : goal.returns
returns c =
    let stepped = c.stepped-s in
    still_below _ _ c.requires (ap (λ (t : Step). t.oscillator) stepped.ensures)
