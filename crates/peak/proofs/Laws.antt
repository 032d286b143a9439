-- What the peak keeper's planes hold: an envelope has no sign, and a new value renews one envelope. The test of a place passes exactly where its ranges hold,
-- and a value keeps them. Assumes nothing.
use Rattle.std.specs.Prelude.{◌≡◌, ℕ, ◌+◌, ◌*◌, ◌%◌, ◌≤◌, ◌<◌, Bool, cond, List, Some, None, T, leb, eqb, length, get_or, set, Float}
use Rattle.std.proofs.Math.Path.{refl}
use Rattle.std.proofs.Common.{sym, ap, ◌∙◌, subst, eqb→eq, ltb→lt, lt→ltb, leb→le, le→leb, length-set, get_or-set_same, get_or-set_other}
use Rattle.std.proofs.Math.Nat.{mod-lt}
use native.Mathlib.Omega.{arith}
use Rattle.std.proofs.Math.Bool.{true, false}
use Rattle.std.proofs.Math.Dec.{ltb}
use Rattle.std.specs.Float.{nan, inf, fin, binary32}
use Rattle.std.specs.Float.Ieee.{up, down, of_bits, fits, is_nan, add, mul, sum, lt}
use Rattle.std.specs.Float.Ieee.Fits.{add-fits, and_l, and_r, and_i, eq→eqb}
use Rattle.std.specs.Float.Ieee.Bits.{is_true}
use Rattle.laws.specs.Places.{upto, length_upto, upto_at, upto_is}
use Rattle.laws.specs.FloatRounding.{signed, round_signed}
use Rattle.numbers.specs.Numbers.{abs_of, min_of, max_of, sign_of}
use Rattle.complex.specs.declared.Complex32.{Complex32}
use borrow.Author.Tests.{lt-ltb, le-ltb, ltb-true}
use Rattle.complex.specs.Complex.{scaled_of}
use Rattle.peak.specs.declared.KeeperPlace.{KeeperPlace}
use Rattle.peak.specs.declared.Kept.{Kept}
use Rattle.peak.specs.Peak.{fresh_place, admitted_of, Admitted, Ring, KeeperStep, smaller_share, envelope_of, envelopes_of, peak_of, followed_of, floor_of, gain_of, reliable_of, levelled_of, oldest_of, put_in, kept_of}
use Rattle.peak.proofs.Sizes.{Unsigned, none, some}
use Rattle.peak.specs.Columns.{highest_of}
use Rattle.peak.proofs.ColumnLaws.{highest_peak}

-- ---- a NaN, or no sign
data Free : Float → Type 0 where
  nothing : Free nan
  plain : {x : Float} → T (signed false x) → Free x

abs_free : (x : Float) → Free (abs_of x)
unfolding abs_of
abs_free nan = nothing
abs_free (inf s) = plain tt
abs_free (fin s m e) = plain tt

cond_free : (b : Bool) (x y : Float) → Free x → Free y → Free (cond b x y)
cond_free true x y X Y = X
cond_free false x y X Y = Y

max_free : (x y : Float) → Free x → Free y → Free (max_of x y)
unfolding max_of
max_free x y X Y = cond_free (is_nan x) _ _ Y (cond_free (is_nan y) _ _ X (cond_free (lt y x) _ _ X (cond_free (lt x y) _ _ Y (cond_free (sign_of x) _ _ Y X))))

min_free : (x y : Float) → Free x → Free y → Free (min_of x y)
unfolding min_of
min_free x y X Y = cond_free (is_nan x) _ _ Y (cond_free (is_nan y) _ _ X (cond_free (lt x y) _ _ X (cond_free (lt y x) _ _ Y (cond_free (sign_of x) _ _ X Y))))

mul_free : (x y : Float) → Free x → Free y → Free (mul binary32 x y)
unfolding mul
mul_free nan y X Y = nothing
mul_free (inf true) y (plain p) Y = absurd p
mul_free (inf false) nan X Y = nothing
mul_free (inf false) (inf true) X (plain q) = absurd q
mul_free (inf false) (inf false) X Y = plain tt
mul_free (inf false) (fin true n d) X (plain q) = absurd q
mul_free (inf false) (fin false n d) X Y = cond_free (eqb n 0) nan (inf false) nothing (plain tt)
mul_free (fin true m e) y (plain p) Y = absurd p
mul_free (fin false m e) nan X Y = nothing
mul_free (fin false m e) (inf true) X (plain q) = absurd q
mul_free (fin false m e) (inf false) X Y = cond_free (eqb m 0) nan (inf false) nothing (plain tt)
mul_free (fin false m e) (fin true n d) X (plain q) = absurd q
mul_free (fin false m e) (fin false n d) X Y = plain (round_signed false binary32 (m * up e * (n * up d)) (down e * down d))

add_free : (x y : Float) → Free x → Free y → Free (add binary32 x y)
unfolding add sum
add_free nan y X Y = nothing
add_free (inf true) y (plain p) Y = absurd p
add_free (inf false) nan X Y = nothing
add_free (inf false) (inf true) X (plain q) = absurd q
add_free (inf false) (inf false) X Y = plain tt
add_free (inf false) (fin t n d) X Y = plain tt
add_free (fin true m e) y (plain p) Y = absurd p
add_free (fin false m e) nan X Y = nothing
add_free (fin false m e) (inf true) X (plain q) = absurd q
add_free (fin false m e) (inf false) X Y = plain tt
add_free (fin false m e) (fin true n d) X (plain q) = absurd q
add_free (fin false m e) (fin false n d) X Y = plain (round_signed false binary32 (m * up e * down d + n * up d * down e) (down e * down d))

share_free : Free smaller_share
unfolding of_bits
share_free = plain tt

unsigned : (x : Float) → T (fits binary32 x) → Free x → Unsigned x
unsigned nan F p = none
unsigned (inf s) F (plain p) = some (record { held = F; plain = p })
unsigned (fin s m e) F (plain p) = some (record { held = F; plain = p })

envelope_unsigned : (real imaginary : Float) → Unsigned (envelope_of real imaginary)
unfolding envelope_of
envelope_unsigned real imaginary =
    let a = abs_of real in
    let b = abs_of imaginary in
    unsigned (add binary32 (max_of a b) (mul binary32 smaller_share (min_of a b))) (add-fits binary32 (max_of a b) (mul binary32 smaller_share (min_of a b)))
    (add_free (max_of a b) (mul binary32 smaller_share (min_of a b)) (max_free a b (abs_free real) (abs_free imaginary)) (mul_free smaller_share (min_of a b) share_free (min_free a b (abs_free real) (abs_free imaginary))))

-- ---- the plane of envelopes
pub envelopes_at : (real imaginary : List Float) (k : ℕ) → k < 64 → get_or (envelopes_of real imaginary) k nan ≡ envelope_of (get_or real k nan) (get_or imaginary k nan)
unfolding envelopes_of
envelopes_at real imaginary k h = upto_at (λ k. envelope_of (get_or real k nan) (get_or imaginary k nan)) 64 k nan h

pub envelopes_length : (real imaginary : List Float) → length (envelopes_of real imaginary) ≡ 64
unfolding envelopes_of
envelopes_length real imaginary = length_upto (λ k. envelope_of (get_or real k nan) (get_or imaginary k nan)) 64

pub highest_is : (real imaginary : List Float) → highest_of (envelopes_of real imaginary) ≡ peak_of (envelopes_of real imaginary)
highest_is real imaginary = highest_peak (envelopes_of real imaginary) (λ k h. subst Unsigned (sym (envelopes_at real imaginary k h)) (envelope_unsigned (get_or real k nan) (get_or imaginary k nan)))

-- a new value renews its own envelope and no other
abbrev renewed : List Float → List Float → ℕ → Float → Float → ℕ → Float
renewed real imaginary at x y k = envelope_of (get_or (set real at x) k nan) (get_or (set imaginary at y) k nan)

pub envelopes_set : (real imaginary : List Float) (at : ℕ) (x y : Float) → at < 64 → length real ≡ 64 → length imaginary ≡ 64
    → set (envelopes_of real imaginary) at (envelope_of x y) ≡ envelopes_of (set real at x) (set imaginary at y)
envelopes_set real imaginary at x y h r i = whole ∙ sym opened
  where
    opened : envelopes_of (set real at x) (set imaginary at y) ≡ upto (renewed real imaginary at x y) 64
    opened = unfold envelopes_of in refl

    same : (k : ℕ) → k < 64 → get_or (set (envelopes_of real imaginary) at (envelope_of x y)) k nan ≡ renewed real imaginary at x y k
    same k l = go (eqb k at) (eqb→eq k at) (λ (e : k ≡ at). eq→eqb e)
      where
        go : (b : Bool) → (T b → k ≡ at) → (k ≡ at → T b) → get_or (set (envelopes_of real imaginary) at (envelope_of x y)) k nan ≡ renewed real imaginary at x y k
        go true a b =
            let e = a tt in
            let len : at < length (envelopes_of real imaginary) = rw (envelopes_length real imaginary) h in
            let lr : at < length real = rw r h in
            let li : at < length imaginary = rw i h in
            rw (e, get_or-set_same (envelopes_of real imaginary) at (envelope_of x y) nan len, get_or-set_same real at x nan lr, get_or-set_same imaginary at y nan li)
        go false a b =
            rw (get_or-set_other (envelopes_of real imaginary) at k (envelope_of x y) nan b, get_or-set_other real at k x nan b, get_or-set_other imaginary at k y nan b) (envelopes_at real imaginary k l)

    whole : set (envelopes_of real imaginary) at (envelope_of x y) ≡ upto (renewed real imaginary at x y) 64
    whole = upto_is (renewed real imaginary at x y) 64 nan (set (envelopes_of real imaginary) at (envelope_of x y)) (simp length-set (envelopes_length real imaginary)) same

-- ---- what the code makes of its calls
pub levelled_is : (head : ℕ) (reference peak : Float) (oldest : Complex32) (next least g : Float) (value : Complex32) (reliable : Bool)
    → next ≡ followed_of peak reference → least ≡ floor_of next → g ≡ gain_of peak least → value ≡ scaled_of oldest g → reliable ≡ reliable_of peak least
    → ◌≡◌ {A = Kept} (record { place = record { head = head; fill = 64; reference = next }; level = Some (record { value = value; reliable = reliable }) }) (levelled_of head reference oldest peak)
unfolding levelled_of
levelled_is head reference peak oldest next least g value reliable n l e v r = rw (r, v, e, l, n)

module _ (place : KeeperPlace) (z : Complex32) (real imaginary : List Float) where
  abbrev ring : Ring
  ring = record { real = real; imaginary = imaginary }

  abbrev next : Ring
  next = put_in ring place.head z

  pub keep_filling : (n : ℕ) → place.fill < 63 → n ≡ place.fill + 1
      → ◌≡◌ {A = KeeperStep} (record { kept = record { place = record { head = (place.head + 1) % 64; fill = n; reference = place.reference }; level = None }; ring = next }) (kept_of place z ring)
  unfolding kept_of
  keep_filling n h e = rw (lt-ltb place.fill 63 h, e)

  pub keep_level : (kept : Kept) (peak : Float) → 63 ≤ place.fill → peak ≡ peak_of (envelopes_of next.real next.imaginary)
      → kept ≡ levelled_of ((place.head + 1) % 64) place.reference (oldest_of next ((place.head + 1) % 64)) peak
      → ◌≡◌ {A = KeeperStep} (record { kept = kept; ring = next }) (kept_of place z ring)
  unfolding kept_of
  keep_level kept peak h p e = rw (le-ltb place.fill 63 h, ← p) (ap (λ (k : Kept). record { kept = k; ring = next }) e)

pub renews : (sizes real imaginary : List Float) (at : ℕ) (x y e : Float) → sizes ≡ envelopes_of real imaginary → e ≡ envelope_of x y → at < 64 → length real ≡ 64 → length imaginary ≡ 64
    → set sizes at e ≡ envelopes_of (set real at x) (set imaginary at y)
renews sizes real imaginary at x y e s h l r i = rw (s, h) (envelopes_set real imaginary at x y l r i)

-- ---- THE TEST AND THE FACTS
pub admitted_facts : (p : KeeperPlace) → admitted_of p ≡ true → Admitted p
admitted_facts p e =
    let t : T (admitted_of p) = rw e tt in
    record {
      head = ltb→lt p.head 64 (and_l (ltb p.head 64) (leb p.fill 64) t);
      fill = leb→le p.fill 64 (and_r (ltb p.head 64) (leb p.fill 64) t);
    }

pub facts_admitted : (p : KeeperPlace) → Admitted p → admitted_of p ≡ true
facts_admitted p a = is_true (admitted_of p) (and_i (ltb p.head 64) (leb p.fill 64) (lt→ltb p.head 64 a.head) (le→leb p.fill 64 a.fill))

pub fresh_admitted : Admitted fresh_place
fresh_admitted = record { head = omega arith; fill = omega arith }

-- ADMITTED IN, ADMITTED OUT
module _ (p : KeeperPlace) (z : Complex32) (ring : Ring) where
  abbrev head_after : ℕ
  head_after = (p.head + 1) % 64

  abbrev kept_full : Kept
  kept_full = levelled_of head_after p.reference (oldest_of (put_in ring p.head z) head_after) (peak_of (envelopes_of (put_in ring p.head z).real (put_in ring p.head z).imaginary))

  pub kept_admitted : Admitted p → Admitted (kept_of p z ring).kept.place
  unfolding kept_of levelled_of
  kept_admitted a = go (ltb p.fill 63) refl
    where
      go : (b : Bool) → ltb p.fill 63 ≡ b → Admitted (cond {A = Kept} b (record { place = record { head = head_after; fill = p.fill + 1; reference = p.reference }; level = None }) kept_full).place
      go true e = let k = ltb-true p.fill 63 e in record { head = mod-lt (p.head + 1) (omega arith); fill = omega arith }
      go false e = record { head = mod-lt (p.head + 1) (omega arith); fill = omega arith }
