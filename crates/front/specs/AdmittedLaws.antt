-- The front's test passes exactly where the ranges of oscillator, decimator and resampler hold. Assumes nothing.
use Rattle.std.specs.Prelude.{◌≡◌, Bool, true, ◌&&◌}
use Rattle.laws.specs.Branches.{and_true}
use Rattle.oscillator.specs.Oscillator as oscillator
use Rattle.oscillator.specs.Laws as oscillator_laws
use Rattle.decimator.specs.Decimator as decimator
use Rattle.decimator.proofs.AdmittedLaws as decimator_laws
use Rattle.resampler.specs.Pass as resampler
use Rattle.resampler.specs.AdmittedLaws as resampler_laws
use Rattle.front.specs.declared.FrontPlace.{FrontPlace}
use Rattle.front.specs.Admitted.{admitted_of, Admitted}

pub admitted_facts : (p : FrontPlace) → admitted_of p ≡ true → Admitted p
admitted_facts p e =
    let first = and_true (oscillator.admitted_of p.oscillator) (decimator.admitted_of p.decimator && resampler.admitted_of p.resampler) e in
    let second = and_true (decimator.admitted_of p.decimator) (resampler.admitted_of p.resampler) first.1 in
    record {
      oscillator = oscillator_laws.admitted_facts p.oscillator first.0;
      decimator = decimator_laws.admitted_facts p.decimator second.0;
      resampler = resampler_laws.admitted_facts p.resampler second.1;
    }

pub facts_admitted : (p : FrontPlace) → Admitted p → admitted_of p ≡ true
facts_admitted p a =
    rw (oscillator_laws.facts_admitted p.oscillator a.oscillator, decimator_laws.facts_admitted p.decimator a.decimator, resampler_laws.facts_admitted p.resampler a.resampler)

-- from what the three tests promise
pub admitted_is : (p : FrontPlace) (a b c : Bool) → a ≡ oscillator.admitted_of p.oscillator → b ≡ decimator.admitted_of p.decimator → c ≡ resampler.admitted_of p.resampler → (a && (b && c)) ≡ admitted_of p
admitted_is p a b c d e f = rw (d, e, f)
