-- What the code of the arctangent makes on each way out. Assumes nothing.
use Rattle.std.specs.Prelude.{◌≡◌, Bool, true, false, T, is_nan, refl, Float}
use Rattle.std.proofs.Common.{sym, ap₂, ◌∙◌, subst}
use Rattle.std.proofs.Math.Path.{ap}
use Rattle.std.specs.Float.Ieee.{nan, sub, neg, ne}
use Rattle.std.specs.Float.{binary32, binary64}
use Rattle.std.specs.Float.Ieee.Compare.{differs_from_itself}
use Rattle.laws.specs.Branches.{cond_yes, cond_no, cond_then}
use Rattle.numbers.specs.Numbers.{abs_of, sign_of, convert}
use Rattle.numbers.specs.Laws.{ne_self}
use Rattle.routines.specs.Angle.{pi, quadrant_arc, mirrored_of, arc_size, arctangent_of}
use Rattle.routines.proofs.AngleLaws.{nan_first, nan_second}

pub mirrored_left : (a : Float) (s : Bool) → s ≡ true → sub binary64 pi a ≡ mirrored_of a s
unfolding mirrored_of
mirrored_left a s h = cond_yes s _ _ h

pub mirrored_right : (a : Float) (s : Bool) → s ≡ false → a ≡ mirrored_of a s
unfolding mirrored_of
mirrored_right a s h = cond_no s _ _ _ h refl

nan_of : (v y : Float) → v ≡ y → ne v v ≡ true → y ≡ nan
nan_of v y e h = sym e ∙ differs_from_itself v (subst T (sym h) tt)

pub first_nan : (y x v : Float) → v ≡ y → ne v v ≡ true → y ≡ arctangent_of y x
first_nan y x v e h = nan_of v y e h ∙ sym (nan_first x) ∙ ap (λ (z : Float). arctangent_of z x) (sym (nan_of v y e h))

pub second_nan : (y x v : Float) → v ≡ x → ne v v ≡ true → x ≡ arctangent_of y x
second_nan y x v e h = nan_of v x e h ∙ sym (nan_second y) ∙ ap (arctangent_of y) (sym (nan_of v x e h))

size_made : (y x v h p q a m r : Float) (s : Bool) → v ≡ y → h ≡ x → p ≡ abs_of v → q ≡ abs_of h → a ≡ quadrant_arc p q → s ≡ sign_of h → m ≡ mirrored_of a s → r ≡ convert binary32 m → r ≡ arc_size y x
unfolding arc_size
size_made y x v h p q a m r s ev eh ep eq ea es em er =
    er ∙ ap (convert binary32) (em ∙ ap₂ mirrored_of (ea ∙ ap₂ quadrant_arc (ep ∙ ap abs_of ev) (eq ∙ ap abs_of eh)) (es ∙ ap sign_of eh))

module _ (y x v h p q a m r : Float) (s t : Bool) (ev : v ≡ y) (eh : h ≡ x) (ep : p ≡ abs_of v) (eq : q ≡ abs_of h) (ea : a ≡ quadrant_arc p q) (es : s ≡ sign_of h) (em : m ≡ mirrored_of a s) (er : r ≡ convert binary32 m) (nv : ne v v ≡ false) (nh : ne h h ≡ false) (et : t ≡ sign_of v) where
  number : is_nan y ≡ false
  number = ap is_nan (sym ev) ∙ sym (ne_self v) ∙ nv

  number' : is_nan x ≡ false
  number' = ap is_nan (sym eh) ∙ sym (ne_self h) ∙ nh

  pub made_below : t ≡ true → neg r ≡ arctangent_of y x
  unfolding arctangent_of
  made_below c =
      cond_no (is_nan y) nan _ _ number
      (cond_no (is_nan x) nan _ _ number' (cond_then (sign_of y) _ _ _ (sym (et ∙ ap sign_of ev) ∙ c) (ap neg (size_made y x v h p q a m r s ev eh ep eq ea es em er))))

  pub made_above : t ≡ false → r ≡ arctangent_of y x
  unfolding arctangent_of
  made_above c =
      cond_no (is_nan y) nan _ _ number
      (cond_no (is_nan x) nan _ _ number' (cond_no (sign_of y) _ _ _ (sym (et ∙ ap sign_of ev) ∙ c) (size_made y x v h p q a m r s ev eh ep eq ea es em er)))
