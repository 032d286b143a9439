-- `hypotenuse::narrow_root` meets its contract: a guess that encloses the root and narrows to one value, and else the root itself, narrowed.
use Rattle.routines.specs.HypotenuseCode.{root_of_nan}
use Rattle.routines.specs.Enclosed.{enclosed}
use Rattle.numbers.specs.Laws.{no_nan}
use Rattle.numbers.specs.Numbers.{convert}
use lib.Ieee.Fits.{mul-fits}
use lib.Ieee.{binary32, binary64, of_bits, div}
use Rattle.std.proofs.Common.{T, sym, ap, ◌∙◌, subst}
use Rattle.routines.proofs.hypotenuse.narrow_root.Goals as goal

pub returns-then-s : goal.returns-then-s
unfolding of_bits div
returns-then-s c = root_of_nan c.args.s c.if-s.true

pub near_root-q-requires : goal.near_root-q-requires
near_root-q-requires c = no_nan _ c.if-s.false

pub returns-then-v-narrow : goal.returns-then-v-narrow
returns-then-v-narrow c =
    let s = c.args.s in
    let good = c.well_formed in
    let encloses_says = c.encloses.ensures in
    enclosed _ s _ _ _ (mul-fits binary64 _ _) (subst T (sym good.0.1) tt) (mul-fits binary64 _ _) (sym encloses_says ∙ c.if-encloses.true) c.narrow-v.ensures c.narrow.ensures c.if-v-narrow.true

pub returns : goal.returns
returns c = c.narrow-2.ensures ∙ ap (convert binary32) c.sqrt.ensures
