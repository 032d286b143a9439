-- The test whether a place is admitted passes exactly where the facts hold that the clock's step asks for. Assumes nothing.
use Rattle.std.specs.Prelude.{◌≡◌, ℕ, ◌+◌, ◌*◌, ◌<◌, ◌≤◌, Bool, true, false, cond, not, ◌&&◌, T, ◌==◌, nat_le, nat_lt, refl, Float}
use Rattle.std.proofs.Common.{arith, sym, ap, ◌∙◌, inl, inr, true≢false, ltb→lt, lt→ltb, leb→le, le→leb, eqb→eq, le-leb}
use Rattle.std.specs.Float.{nan, inf, fin}
use Rattle.std.specs.Float.Ieee.{of_bits, up, down, below, lt, le}
use Rattle.std.specs.Float.Ieee.Fits.{and_l, and_r, and_i, eq→eqb}
use Rattle.std.specs.Float.Ieee.Bits.{is_true}
use Rattle.std.specs.Float.Ieee.Scale.{finite}
use Rattle.std.proofs.lemmas.Bool.{lt-leb}
use Rattle.laws.specs.FloatOrder.{sign_times, le→, not_lt→le, lt_nan}
use Rattle.laws.specs.FloatSums.{ends, in_finite}
use Rattle.clock.specs.declared.ClockPlace.{ClockPlace}
use Rattle.clock.specs.Clock.{within, minus16, f48, counts_fit, admitted_of, tenth, minus_tenth}
use Rattle.clock.specs.Ranges.{Within, Admitted}

-- ---- a range: two comparisons that a NaN passes
pub within_from : (x low high : Float) → T (ends low high) → T (within x low high) → Within low high x
unfolding lt
within_from nan low high p t = inl refl
within_from (inf s) nan high p t = absurd p
within_from (inf s) (inf l) high p t = absurd p
within_from (inf s) (fin l m e) nan p t = absurd p
within_from (inf s) (fin l m e) (inf h) p t = absurd p
within_from (inf true) (fin l m e) (fin h n d) p t = absurd t
within_from (inf false) (fin l m e) (fin h n d) p t = absurd t
within_from (fin s k c) low high p t =
    let L = and_l (finite low) (finite high) p in
    let H = and_r (finite low) (finite high) p in
    inr (record {
      lower = not_lt→le (fin s k c) low tt L (and_l (not (lt (fin s k c) low)) (not (lt high (fin s k c))) t);
      upper = not_lt→le high (fin s k c) H tt (and_r (not (lt (fin s k c) low)) (not (lt high (fin s k c))) t);
    })

-- x < y and y <= x do not both hold
below→ : (s : Bool) (a : ℕ) (t : Bool) (b : ℕ) → T (below s a t b) → cond s 0 a + cond t b 0 < cond t 0 b + cond s a 0
below→ false a false b h = let k = ltb→lt a b h in omega arith
below→ false a true b h = absurd h
below→ true a false b h = let k = ltb→lt 0 (a + b) h in omega arith
below→ true a true b h = let k = ltb→lt b a h in omega arith

not_both : (x y : Float) → T (finite x) → T (finite y) → T (le y x) → T (lt x y) → ⊥
unfolding lt
not_both nan y p q h k = absurd p
not_both (inf s) y p q h k = absurd p
not_both (fin s m e) nan p q h k = absurd q
not_both (fin s m e) (inf t) p q h k = absurd q
not_both (fin s m e) (fin t n d) p q h k =
    let u = sign_times s (m * up e) (down d) in
    let v = sign_times t (n * up d) (down e) in
    let l = below→ s (m * up e * down d) t (n * up d * down e) k in
    let g = le→ (fin t n d) (fin s m e) tt tt h in
    go _ _ _ _ _ _ _ _ u.0 u.1 v.0 v.1 l g
  where
    go : (a b c d a' b' c' d' : ℕ) → a ≡ a' → b ≡ b' → c ≡ c' → d ≡ d' → a + d < c + b → c' + b' ≤ a' + d' → ⊥
    go a b c d a' b' c' d' p q r s l g = omega arith

le_not : (x y : Float) → T (finite x) → T (finite y) → T (le y x) → T (not (lt x y))
le_not x y p q h = go (lt x y) (not_both x y p q h)
  where
    go : (b : Bool) → (T b → ⊥) → T (not b)
    go true k = absurd (k tt)
    go false k = tt

within_to : (x low high : Float) → T (ends low high) → Within low high x → T (within x low high)
unfolding lt
within_to x low high p (inl e) = rw (e, lt_nan high) tt
within_to x low high p (inr i) =
    let L = and_l (finite low) (finite high) p in
    let H = and_r (finite low) (finite high) p in
    let X = in_finite low high x L H i in
    and_i (not (lt x low)) (not (lt high x)) (le_not x low X L i.lower) (le_not high x H X i.upper)

-- ---- the counts
counts_from : (c : ClockPlace) → T (counts_fit c) → (c.warm ≡ false → (c.position ≡ 0) × (c.count ≤ 82)) × (c.warm ≡ true → (5 ≤ c.position) × (c.position ≤ 12) × (c.count ≤ 100 + c.position))
unfolding counts_fit
counts_from c t = go c.warm refl t
  where
    go : (w : Bool) → c.warm ≡ w → T (cond w (nat_le c.position 12 && (nat_le 5 c.position && nat_le c.count (100 + c.position))) (c.position == 0 && nat_le c.count 82))
        → (c.warm ≡ false → (c.position ≡ 0) × (c.count ≤ 82)) × (c.warm ≡ true → (5 ≤ c.position) × (c.position ≤ 12) × (c.count ≤ 100 + c.position))
    go true e t =
        let r = and_r (nat_le c.position 12) (nat_le 5 c.position && nat_le c.count (100 + c.position)) t in (
          λ z. absurd (true≢false (sym e ∙ z)),
          λ z. (
            leb→le 5 c.position (and_l (nat_le 5 c.position) (nat_le c.count (100 + c.position)) r),
            leb→le c.position 12 (and_l (nat_le c.position 12) (nat_le 5 c.position && nat_le c.count (100 + c.position)) t),
            leb→le c.count (100 + c.position) (and_r (nat_le 5 c.position) (nat_le c.count (100 + c.position)) r),
          ),
        )
    go false e t =
        (λ z. (eqb→eq c.position 0 (and_l (c.position == 0) (nat_le c.count 82) t), leb→le c.count 82 (and_r (c.position == 0) (nat_le c.count 82) t)), λ z. absurd (true≢false (sym z ∙ e)))

counts_to : (c : ClockPlace) → (c.warm ≡ false → (c.position ≡ 0) × (c.count ≤ 82)) → (c.warm ≡ true → (5 ≤ c.position) × (c.position ≤ 12) × (c.count ≤ 100 + c.position)) → T (counts_fit c)
unfolding counts_fit
counts_to c cold hot = go c.warm refl
  where
    go : (w : Bool) → c.warm ≡ w → T (cond w (nat_le c.position 12 && (nat_le 5 c.position && nat_le c.count (100 + c.position))) (c.position == 0 && nat_le c.count 82))
    go true e = let h = hot e in and_i (nat_le c.position 12) _ (le→leb c.position 12 h.1) (and_i (nat_le 5 c.position) _ (le→leb 5 c.position h.0) (le→leb c.count (100 + c.position) h.2))
    go false e = let h = cold e in and_i (c.position == 0) _ (eq→eqb h.0) (le→leb c.count 82 h.1)

-- ---- THE TEST AND THE FACTS
abbrev pub floats_fit : ClockPlace → Bool
floats_fit c = within c.phase minus16 f48 && within c.rate minus_tenth tenth

pub admitted_facts : (c : ClockPlace) → admitted_of c ≡ true → Admitted c
unfolding of_bits
admitted_facts c e =
    let t : T (admitted_of c) = rw e tt in
    let r = and_r (nat_lt c.start 256) (counts_fit c && floats_fit c) t in
    let f = and_r (counts_fit c) (floats_fit c) r in
    let n = counts_from c (and_l (counts_fit c) (floats_fit c) r) in
    record {
      start = ltb→lt c.start 256 (and_l (nat_lt c.start 256) (counts_fit c && floats_fit c) t);
      cold = n.0;
      hot = n.1;
      phase = within_from c.phase minus16 f48 tt (and_l (within c.phase minus16 f48) (within c.rate minus_tenth tenth) f);
      rate = within_from c.rate minus_tenth tenth tt (and_r (within c.phase minus16 f48) (within c.rate minus_tenth tenth) f);
    }

pub facts_admitted : (c : ClockPlace) → Admitted c → admitted_of c ≡ true
unfolding of_bits
facts_admitted c a = is_true (admitted_of c)
    (and_i (nat_lt c.start 256) _ (lt→ltb c.start 256 a.start)
    (and_i (counts_fit c) _ (counts_to c a.cold a.hot)
    (and_i (within c.phase minus16 f48) _ (within_to c.phase minus16 f48 tt a.phase) (within_to c.rate minus_tenth tenth tt a.rate))))

-- ---- the test's ways out
pub counts_warm : (c : ClockPlace) → c.warm ≡ true → c.position ≤ 12 → nat_le 5 c.position && nat_le c.count (100 + c.position) ≡ counts_fit c
unfolding counts_fit
counts_warm c w h = rw (w, le-leb c.position 12 h)

pub counts_beyond : (c : ClockPlace) → c.warm ≡ true → 12 < c.position → false ≡ counts_fit c
unfolding counts_fit
counts_beyond c w h = rw (w, lt-leb c.position 12 h)

pub counts_cold : (c : ClockPlace) → c.warm ≡ false → (c.position == 0) && nat_le c.count 82 ≡ counts_fit c
unfolding counts_fit
counts_cold c w = rw w

pub admitted_is : (c : ClockPlace) (b : Bool) → b ≡ counts_fit c → nat_lt c.start 256 && (b && floats_fit c) ≡ admitted_of c
admitted_is c b e = ap (λ (b : Bool). nat_lt c.start 256 && (b && floats_fit c)) e
