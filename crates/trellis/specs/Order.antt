-- The order of floats that are no NaN, infinities included, and what follows for the first of the cheapest: it may be sought in parts. Assumes nothing.
use Rattle.std.specs.Prelude.{◌≡◌, refl, Bool, true, false, not, ◌&&◌, T, Float}
use Rattle.std.proofs.Common.{sym, ◌∙◌, true≢false}
use Rattle.std.proofs.Math.Dec.{not_T}
use Rattle.std.specs.Float.{nan, inf, fin}
use Rattle.std.specs.Float.Ieee.{lt, le, is_nan}
use Rattle.std.specs.Float.Ieee.Bits.{is_false}
use Rattle.laws.specs.Branches.{from_true}
use Rattle.laws.specs.FloatOrder.{total, le_trans', lt→le, lt_clash}

-- ---- what is below is not above, nor is what is level
le_turned : (x y : Float) → T (le x y) → lt y x ≡ false
le_turned x y h = is_false (lt y x) (not_T (lt y x) (λ l. lt_clash y x l h))

pub lt_turned : (x y : Float) → lt x y ≡ true → lt y x ≡ false
lt_turned x y h = le_turned x y (lt→le x y (from_true (lt x y) h))

-- ---- at least a, and at least that: at least a
pub no_less : (a b c : Float) → is_nan a ≡ false → is_nan b ≡ false → is_nan c ≡ false → lt b a ≡ false → lt c b ≡ false → lt c a ≡ false
unfolding lt is_nan
no_less nan b c x y z p q = absurd (true≢false x)
no_less (inf s) nan c x y z p q = absurd (true≢false y)
no_less (inf s) (inf t) nan x y z p q = refl
no_less (inf s) (inf t) (inf u) x y z p q = go s t u p q
  where
    go : (s t u : Bool) → (t && not s) ≡ false → (u && not t) ≡ false → (u && not s) ≡ false
    go true t true p q = refl
    go true t false p q = refl
    go false true true p q = p
    go false true false p q = refl
    go false false u p q = q
no_less (inf s) (inf t) (fin u k g) x y z p q = go s t p q
  where
    go : (s t : Bool) → (t && not s) ≡ false → not t ≡ false → not s ≡ false
    go true t p q = refl
    go false true p q = p
    go false false p q = q
no_less (inf s) (fin t n d) nan x y z p q = refl
no_less (inf s) (fin t n d) (inf true) x y z p q = absurd (true≢false q)
no_less (inf s) (fin t n d) (inf false) x y z p q = refl
no_less (inf s) (fin t n d) (fin u k g) x y z p q = p
no_less (fin s m e) nan c x y z p q = absurd (true≢false y)
no_less (fin s m e) (inf t) nan x y z p q = refl
no_less (fin s m e) (inf true) (inf u) x y z p q = absurd (true≢false p)
no_less (fin s m e) (inf false) (inf true) x y z p q = q
no_less (fin s m e) (inf false) (inf false) x y z p q = refl
no_less (fin s m e) (inf true) (fin u k g) x y z p q = absurd (true≢false p)
no_less (fin s m e) (inf false) (fin u k g) x y z p q = absurd (true≢false q)
no_less (fin s m e) (fin t n d) nan x y z p q = refl
no_less (fin s m e) (fin t n d) (inf u) x y z p q = q
no_less (fin s m e) (fin t n d) (fin u k g) x y z p q =
    let i : T (le (fin s m e) (fin t n d)) = from_true (le (fin s m e) (fin t n d)) (total (fin t n d) (fin s m e) tt tt p) in
    let j : T (le (fin t n d) (fin u k g)) = from_true (le (fin t n d) (fin u k g)) (total (fin u k g) (fin t n d) tt tt q) in
    le_turned (fin s m e) (fin u k g) (le_trans' (fin s m e) (fin t n d) (fin u k g) tt tt tt i j)

pub lt_through : (a b c : Float) → is_nan a ≡ false → is_nan b ≡ false → is_nan c ≡ false → lt b a ≡ true → lt c b ≡ true → lt c a ≡ true
lt_through a b c x y z p q = go (lt c a) refl
  where
    go : (t : Bool) → lt c a ≡ t → lt c a ≡ true
    go true e = e
    go false e = absurd (true≢false (sym p ∙ no_less a c b x z y e (lt_turned c b q)))
