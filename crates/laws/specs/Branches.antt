-- A branch: what a `cond` is where its test is known, and what a test that holds says. Assumes nothing.
use Rattle.std.specs.Prelude.{◌≡◌, refl, Bool, true, false, not, cond, ◌&&◌, ◌||◌, T}
use Rattle.std.proofs.Common.{sym, subst, true≢false}
use Rattle.std.proofs.lemmas.Bool.{false≢true}

module _ {A : Type 0} where
  pub cond_yes : (b : Bool) (x y : A) → b ≡ true → x ≡ cond b x y
  cond_yes b x y h = rw h

  pub cond_then : (b : Bool) (x y z : A) → b ≡ true → z ≡ x → z ≡ cond b x y
  cond_then b x y z h e = rw h e

  pub cond_no : (b : Bool) (x y z : A) → b ≡ false → z ≡ y → z ≡ cond b x y
  cond_no b x y z h e = rw h e

pub not_true : (b : Bool) → not b ≡ true → b ≡ false
not_true true h = sym h
not_true false h = refl

pub not_false : (b : Bool) → not b ≡ false → b ≡ true
not_false true h = refl
not_false false h = sym h

pub and_true : (a b : Bool) → (a && b) ≡ true → (a ≡ true) × (b ≡ true)
and_true true b h = (refl, h)
and_true false b h = absurd (false≢true h)

pub or_false : (a b : Bool) → (a || b) ≡ false → (a ≡ false) × (b ≡ false)
or_false true b h = absurd (true≢false h)
or_false false b h = (refl, h)

pub from_true : (b : Bool) → b ≡ true → T b
from_true b e = subst T (sym e) tt

pub from_false : (b : Bool) → b ≡ false → T (not b)
from_false b e = subst (λ (t : Bool). T (not t)) (sym e) tt
