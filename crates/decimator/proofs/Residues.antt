-- Integers modulo m: `modulo m` keeps sums and differences; and 64 bits read as signed are the integer itself where that is in range. Assumes nothing.
use Rattle.std.specs.Prelude.{◌≡◌, ℕ, suc, ◌+◌, ◌-◌, ◌*◌, ◌/◌, ◌%◌, ◌^◌, ◌<◌, ◌≤◌, Bool, true, false, cond, not, T, ℤ, pos, negsuc, ◌+ℤ◌, nat_lt, unsigned_abs}
use Rattle.std.proofs.Common.{mod-lt, div-add-mod', mod-eq_of_lt, le_trans, add_comm, arith, sym, ap, ◌∙◌, ltb→lt, nltb→le, lit≤, pow_pos, lt-ltb, le-ltb}
use Rattle.std.proofs.Math.Arith.{digits_mod}
use Rattle.std.proofs.Math.IntN.{sub_ℕ}
use Rattle.std.specs.Int.Signed.{mag}
use Rattle.laws.specs.Modulo.{modulo}
use Rattle.numbers.specs.Bits.{signed_of}
use Rattle.decimator.specs.Decimator.{wrap_add, wrap_sub}
use Rattle.decimator.specs.Demand.{wrapped}

-- z is `up z` - `down z`
abbrev up : ℤ → ℕ
up (pos n) = n
up (negsuc n) = 0

abbrev down : ℤ → ℕ
down (pos n) = 0
down (negsuc n) = suc n

-- one side of a sum of unlike signs
unlike : (a b : ℕ) → (up (sub_ℕ a b) + b ≡ a + down (sub_ℕ a b)) × (unsigned_abs (sub_ℕ a b) ≤ a + b)
unlike a b = go (nat_lt a b) (ltb→lt a b) (nltb→le a b)
  where
    go : (t : Bool) → (T t → a < b) → (T (not t) → b ≤ a)
        → (up (cond t (negsuc (b - suc a)) (pos (a - b))) + b ≡ a + down (cond t (negsuc (b - suc a)) (pos (a - b)))) × (unsigned_abs (cond t (negsuc (b - suc a)) (pos (a - b))) ≤ a + b)
    go true h k = let l : a < b = h tt in omega arith
    go false h k = let l : b ≤ a = k tt in omega arith

parts : (a b : ℤ) → up (a +ℤ b) + (down a + down b) ≡ up a + up b + down (a +ℤ b)
parts (pos a) (pos b) = omega arith
parts (pos a) (negsuc b) = omega (arith, (unlike a (suc b)).0)
parts (negsuc a) (pos b) = omega (arith, (unlike b (suc a)).0)
parts (negsuc a) (negsuc b) = omega arith

pub nat_abs_add : (a b : ℤ) → unsigned_abs (a +ℤ b) ≤ unsigned_abs a + unsigned_abs b
nat_abs_add (pos a) (pos b) = omega arith
nat_abs_add (pos a) (negsuc b) = omega (arith, (unlike a (suc b)).1)
nat_abs_add (negsuc a) (pos b) = omega (arith, (unlike b (suc a)).1)
nat_abs_add (negsuc a) (negsuc b) = omega arith

-- ---- modulo m

pub modulo_lt : (m : ℕ) (z : ℤ) → 0 < m → modulo m z < m
unfolding modulo
modulo_lt m (pos n) h = mod-lt n h
modulo_lt m (negsuc n) h = omega arith

-- they differ from z by a multiple of m
record Same (m x y : ℕ) : Type 0 where
  more : ℕ
  less : ℕ
  same : x + more * m ≡ y + less * m

modulo_same : (m : ℕ) (z : ℤ) → 0 < m → Same m (modulo m z + down z) (up z)
unfolding modulo
modulo_same m (pos n) h = let e = div-add-mod' n m in record { more = n / m; less = 0; same = omega arith }
modulo_same m (negsuc n) h = let e = div-add-mod' n m in let l = mod-lt n h in record { more = 0; less = suc (n / m); same = omega arith }

-- two numbers below m that differ by a multiple of m
pub only_one : (m x y k l : ℕ) → x < m → y < m → x + k * m ≡ y + l * m → x ≡ y
only_one m x y k l a b e = sym (digits_mod k a) ∙ ap (λ (n : ℕ). n % m) (add_comm (k * m) x ∙ e ∙ add_comm y (l * m)) ∙ digits_mod l b

modulo_add : (m : ℕ) (a b : ℤ) → 0 < m → modulo m (a +ℤ b) ≡ (modulo m a + modulo m b) % m
modulo_add m a b h =
    let ea = modulo_same m a h in
    let eb = modulo_same m b h in
    let ec = modulo_same m (a +ℤ b) h in
    let q = (modulo m a + modulo m b) / m in
    let sa : modulo m a + down a + ea.more * m ≡ up a + ea.less * m = ea.same in
    let sb : modulo m b + down b + eb.more * m ≡ up b + eb.less * m = eb.same in
    let sc : modulo m (a +ℤ b) + down (a +ℤ b) + ec.more * m ≡ up (a +ℤ b) + ec.less * m = ec.same in
    let r : q * m + (modulo m a + modulo m b) % m ≡ modulo m a + modulo m b = div-add-mod' (modulo m a + modulo m b) m in
    let p : up (a +ℤ b) + (down a + down b) ≡ up a + up b + down (a +ℤ b) = parts a b in
    only_one m (modulo m (a +ℤ b)) ((modulo m a + modulo m b) % m) (ec.more + ea.less + eb.less) (ec.less + ea.more + eb.more + q) (modulo_lt m (a +ℤ b) h) (mod-lt (modulo m a + modulo m b) h)
    (omega arith)

-- a number added and taken away again
back_off : (m x y : ℕ) → x < m → y < m → ((x + y) % m + (m - x)) % m ≡ y
back_off m x y a b =
    let h : 0 < m = omega arith in
    let z = (x + y) % m + (m - x) in
    let e = div-add-mod' (x + y) m in
    let f = div-add-mod' z m in
    only_one m (z % m) y (z / m + (x + y) / m) 1 (mod-lt z h) b (omega arith)

-- ---- at 64 bits
two64 : 0 < 2 ^ 64
two64 = pow_pos 64

pub wrap_add_lem : (a b : ℤ) → wrap_add (modulo (2 ^ 64) a) (modulo (2 ^ 64) b) ≡ modulo (2 ^ 64) (a +ℤ b)
wrap_add_lem a b = sym (modulo_add (2 ^ 64) a b two64)

pub wrap_sub_lem : (c a b : ℤ) → c ≡ a +ℤ b → wrap_sub (modulo (2 ^ 64) c) (modulo (2 ^ 64) a) ≡ modulo (2 ^ 64) b
wrap_sub_lem c a b e =
    ap (λ (z : ℤ). wrap_sub (modulo (2 ^ 64) z) (modulo (2 ^ 64) a)) e
    ∙ ap (λ (n : ℕ). wrap_sub n (modulo (2 ^ 64) a)) (sym (wrap_add_lem a b))
    ∙ back_off (2 ^ 64) (modulo (2 ^ 64) a) (modulo (2 ^ 64) b) (modulo_lt (2 ^ 64) a two64) (modulo_lt (2 ^ 64) b two64)

-- what is in range is left as it is
low_signed : (u : ℕ) → u < 2 ^ 63 → signed_of u ≡ pos u
low_signed u h = ap (λ (t : Bool). cond t (pos u) (negsuc (2 ^ 64 - 1 - u))) (lt-ltb u (2 ^ 63) h)

high_signed : (u k : ℕ) → k < 2 ^ 63 → u ≡ 2 ^ 64 - suc k → signed_of u ≡ negsuc k
high_signed u k h e =
    ap (λ (t : Bool). cond t (pos u) (negsuc (2 ^ 64 - 1 - u))) (le-ltb u (2 ^ 63) (omega arith))
    ∙ ap negsuc (omega arith)

pub wrapped_id : (z : ℤ) → mag z < 2 ^ 63 → wrapped z ≡ z
unfolding wrapped modulo
wrapped_id (pos n) h =
    let e : n % 2 ^ 64 ≡ n = mod-eq_of_lt (le_trans h (lit≤ tt)) in
    low_signed (n % 2 ^ 64) (rw e h) ∙ ap pos e
wrapped_id (negsuc n) h =
    let e : n % 2 ^ 64 ≡ n = mod-eq_of_lt (le_trans h (lit≤ tt)) in
    high_signed (2 ^ 64 - suc (n % 2 ^ 64)) n h (ap (λ (k : ℕ). 2 ^ 64 - suc k) e)
