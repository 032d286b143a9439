-- Forgetting, in the ring: an output is a function of the latest c values and of where it lies, and how many outputs a pass gives, and where it ends, does not turn on the values. Assumes nothing.
use Rattle.std.specs.Prelude.{◌≡◌, ℕ, zero, suc, ◌+◌, ◌%◌, ◌<◌, ◌≤◌, Bool, true, false, cond, List, [], ◌∷◌, ◌++◌, length, take, slice_set, Float}
use Rattle.std.proofs.Math.Path.{refl, sym}
use Rattle.std.proofs.Common.{ap, ◌∙◌, true≢false, mod-lt, arith, length-set, get_or-take, length-take-le}
use Rattle.std.proofs.lemmas.Bool.{false≢true}
use Rattle.std.proofs.Math.Seq.{take-set-lt}
use Rattle.std.specs.Float.Ieee.{nan, add}
use Rattle.std.specs.Float.{binary64}
use Rattle.laws.specs.Turns.{until}
use Rattle.laws.specs.Places.{upto, upto_same}
use Rattle.laws.specs.Ring.{start, latest, latest_push}
use Rattle.resampler.specs.declared.pass.Resampler.{Resampler}
use Rattle.resampler.specs.declared.pass.Delivery.{Delivery}
use Rattle.resampler.specs.Pass.{placed_of, waiting_of, window_of, arm_at, sum_of, filtered_of, emitted_of, is_done, pass_turn, delivered_of, start_of}
use Rattle.resampler.specs.AdmittedLaws.{count_emitted, next_emitted}

-- ---- a push onto a plane that is longer than its ring
module _ (size head k : ℕ) (in_ring : head < size) (plane : List Float) (room : size ≤ length plane) where
  latest_take : (h n : ℕ) → 0 < size → latest nan size plane h n ≡ latest nan size (take size plane) h n
  unfolding latest
  latest_take h n S = upto_same _ _ n (λ i l. sym (get_or-take size plane ((start nan size h n + i) % size) nan (mod-lt (start nan size h n + i) S)))

pub latest_pushed : (size head k : ℕ) → head < size → k < size → (plane : List Float) (z : Float) → size ≤ length plane
    → latest nan size (slice_set plane head z) ((head + 1) % size) (k + 1) ≡ latest nan size plane head k ++ (z ∷ [])
latest_pushed size head k h l plane z room =
    latest_take size head k h (slice_set plane head z) (rw (length-set plane head z) room) ((head + 1) % size) (k + 1) (omega arith)
    ∙ ap (λ (p : List Float). latest nan size p ((head + 1) % size) (k + 1)) (take-set-lt size plane head z h)
    ∙ latest_push nan size head k h l (take size plane) z (length-take-le size plane room)
    ∙ ap (λ (p : List Float). p ++ (z ∷ [])) (sym (latest_take size head k h plane room head k (omega arith)))

-- ---- a pass over equal windows gives equal outputs
until_same : {A : Type 0} (stop : A → Bool) (f g : A → A) → ((a : A) → f a ≡ g a) → (n : ℕ) (a : A) → until stop f n a ≡ until stop g n a
unfolding until
until_same stop f g h zero a = refl
until_same stop f g h (suc n) a = ap (λ (b : _). cond (stop a) a b) (until_same stop f g h n (f a) ∙ ap (until stop g n) (h a))

pub delivered_same : (q : Resampler) (table real imaginary xs ys : List Float) → window_of q real ≡ window_of q xs → window_of q imaginary ≡ window_of q ys → delivered_of q table real imaginary ≡ delivered_of q table xs ys
unfolding delivered_of
delivered_same q table real imaginary xs ys e f =
    until_same (is_done q) (pass_turn q table real imaginary) (pass_turn q table xs ys) (λ d. ap (emitted_of d q.step) (λ i. sum_of q.arm (arm_at q.arm table (placed_of d.next).phase) (e i) (f i))) 2 (start_of q.next)

-- ---- how many outputs a pass gives, and where it ends, does not turn on the values
record Alike (d e : Delivery) : Type 0 where
  same_count : d.count ≡ e.count
  same_next : d.next ≡ e.next

module _ (q : Resampler) (table real imaginary table' xs ys : List Float) where
  turn_alike : (d e : Delivery) → Alike d e → Alike (pass_turn q table real imaginary d) (pass_turn q table' xs ys e)
  turn_alike d e a =
      let v = filtered_of q table real imaginary (placed_of d.next).phase in
      let w = filtered_of q table' xs ys (placed_of e.next).phase in
      record {
        same_count = count_emitted d q.step v ∙ ap (λ (n : ℕ). n + 1) a.same_count ∙ sym (count_emitted e q.step w);
        same_next = next_emitted d q.step v ∙ ap (λ (x : Float). add binary64 x q.step) a.same_next ∙ sym (next_emitted e q.step w);
      }

  until_alike : (n : ℕ) (d e : Delivery) → Alike d e → Alike (until (is_done q) (pass_turn q table real imaginary) n d) (until (is_done q) (pass_turn q table' xs ys) n e)
  unfolding until
  until_alike zero d e a = a
  until_alike (suc n) d e a =
      go (is_done q d) (is_done q e) (ap (λ (x : Float). waiting_of q (placed_of x)) a.same_next) (until_alike n (pass_turn q table real imaginary d) (pass_turn q table' xs ys e) (turn_alike d e a))
    where
      go : (b c : Bool) → b ≡ c → Alike (until (is_done q) (pass_turn q table real imaginary) n (pass_turn q table real imaginary d)) (until (is_done q) (pass_turn q table' xs ys) n (pass_turn q table' xs ys e))
          → Alike (cond b d (until (is_done q) (pass_turn q table real imaginary) n (pass_turn q table real imaginary d))) (cond c e (until (is_done q) (pass_turn q table' xs ys) n (pass_turn q table' xs ys e)))
      go true true p r = a
      go true false p r = absurd (true≢false p)
      go false true p r = absurd (false≢true p)
      go false false p r = r

  pub next_same : (delivered_of q table real imaginary).next ≡ (delivered_of q table' xs ys).next
  unfolding delivered_of
  next_same = (until_alike 2 (start_of q.next) (start_of q.next) (record { same_count = refl; same_next = refl })).same_next

-- ---- two rings whose latest k values agree: xs and ys are the planes of one, us and vs those of the other
pub record Planes (arm write k : ℕ) (xs ys us vs : List Float) : Type 0 where
  pub inside : write < arm + 16
  pub room_xs : arm + 16 ≤ length xs
  pub room_ys : arm + 16 ≤ length ys
  pub room_us : arm + 16 ≤ length us
  pub room_vs : arm + 16 ≤ length vs
  pub real_same : latest nan (arm + 16) xs write k ≡ latest nan (arm + 16) us write k
  pub imaginary_same : latest nan (arm + 16) ys write k ≡ latest nan (arm + 16) vs write k

-- a value into each
module _ (arm write k : ℕ) (xs ys us vs : List Float) (p : Planes arm write k xs ys us vs) (a b c d : Float) where
  next_in : (write + 1) % (arm + 16) < arm + 16
  next_in = mod-lt (write + 1) (omega arith)

  grown : (plane : List Float) (z : Float) → arm + 16 ≤ length plane → arm + 16 ≤ length (slice_set plane write z)
  grown plane z h = rw (length-set plane write z) h

  -- whatever they are
  pub planes_other : Planes arm ((write + 1) % (arm + 16)) 0 (slice_set xs write a) (slice_set ys write b) (slice_set us write c) (slice_set vs write d)
  unfolding latest upto
  planes_other = record {
    inside = next_in;
    room_xs = grown xs a p.room_xs;
    room_ys = grown ys b p.room_ys;
    room_us = grown us c p.room_us;
    room_vs = grown vs d p.room_vs;
    real_same = refl;
    imaginary_same = refl;
  }

  -- the same value: one more agrees
  pub planes_more : k < arm + 16 → a ≡ c → b ≡ d → Planes arm ((write + 1) % (arm + 16)) (k + 1) (slice_set xs write a) (slice_set ys write b) (slice_set us write c) (slice_set vs write d)
  planes_more l e f = record {
    inside = next_in;
    room_xs = grown xs a p.room_xs;
    room_ys = grown ys b p.room_ys;
    room_us = grown us c p.room_us;
    room_vs = grown vs d p.room_vs;
    real_same =
        latest_pushed (arm + 16) write k p.inside l xs a p.room_xs
        ∙ (λ i. p.real_same i ++ (e i ∷ []))
        ∙ sym (latest_pushed (arm + 16) write k p.inside l us c p.room_us);
    imaginary_same =
        latest_pushed (arm + 16) write k p.inside l ys b p.room_ys
        ∙ (λ i. p.imaginary_same i ++ (f i ∷ []))
        ∙ sym (latest_pushed (arm + 16) write k p.inside l vs d p.room_vs);
  }
