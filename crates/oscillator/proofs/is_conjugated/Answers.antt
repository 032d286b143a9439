-- `is_conjugated` meets its contract: profile 1 is conjugated, and no other number is.
use Rattle.std.proofs.Common.{◌∙◌, ⊎_elim, of_z, w32}
use Rattle.std.proofs.lemmas.Bool.Decides.{eqb_tells}
use Rattle.oscillator.specs.Laws.{profile_one, profile_other}
use Rattle.oscillator.proofs.is_conjugated.Goals as goal

pub returns : goal.returns
returns c =
    let p = c.args.profile in
    ⊎_elim (λ e. e.0 ∙ profile_one p c.ranges.profile e.1) (λ e. e.0 ∙ profile_other p e.1) (eqb_tells (of_z w32 p) 1)
