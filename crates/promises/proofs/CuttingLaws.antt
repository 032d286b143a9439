-- Any cutting of samples into accepted blocks gives the same dibits, the same reliabilities and the same state. Assumes nothing.
use Rattle.std.specs.Prelude.{◌≡◌, refl, List, [], ◌∷◌, ◌++◌, ℕ, ◌+◌, ◌*◌, length, Float}
use Rattle.std.proofs.Common.{sym, ap, ◌∙◌, arith, length-append}
use Rattle.laws.specs.Turns.{turns}
use Rattle.front.specs.Front as front
use Rattle.chain.specs.Rows.{ran_of, chain_of}
use Rattle.receiver_state.specs.declared.state.Receiver.{Receiver}
use Rattle.samples.specs.Samples.{count_of, samples_with, overload_of}
use Rattle.run.specs.Run.{whole_run_of}
use Rattle.second.specs.Parts.{split_join}
use Rattle.receiver.specs.Block.{Rooms, one, start_of, receiver_with, Outcome, block_of}
use Rattle.promises.specs.Deliveries.{delivered_by, dibits_in, bytes_in, deliveries_of, other_deliveries_of, after_of, outcome_of}
use Rattle.promises.proofs.DeliveriesLaws.{dibits_append, bytes_append, accepted_is}
use Rattle.promises.specs.SecondKept.{SplitsBack}
use Rattle.promises.specs.Append.{told_first, count_append, overload_append, after_append, delivered_append, others_append}
use Rattle.promises.specs.Accepts.{Typed}
use Rattle.promises.proofs.AcceptsLaws.{accepted_passes, passes_back, block_kept}
use Rattle.promises.proofs.ComposeLaws.{dibits_are, bytes_are, others_are, other_bytes_are, block_in_two}
use Rattle.promises.specs.Cutting.{AllAccepted, AllBoth, AllRoomy, OtherSession, Part, Session, after, called, other_session_of, others_after, samples_in, session_of}

-- ---- a session by its samples alone
abbrev by_samples : Receiver → List Float → List Float → Session
by_samples r table xs = record {
  receiver = after_of r table xs;
  count = length (deliveries_of r table xs);
  overload = overload_of xs;
  dibits = dibits_in (deliveries_of r table xs);
  reliabilities = bytes_in (deliveries_of r table xs);
}

session_of_none : (r : Receiver) (table : List Float) → length r.memory ≡ 9280 → session_of r table [] ≡ by_samples r table []
unfolding after_of whole_run_of chain_of ran_of deliveries_of delivered_by overload_of samples_with front.front_of turns
session_of_none r table m =
    let e : r.total ≡ r.total + 0 = omega arith in
    let f = sym (split_join r.memory m) in
    λ i. record { receiver = receiver_with (e i) (start_of r (one [] [])) (f i); count = 0; overload = 0; dibits = []; reliabilities = [] }

session_of_more : (r : Receiver) (table xs ys : List Float) (lent : Rooms) → length xs ≡ 2 * count_of xs → SplitsBack (told_first r table xs ys).state.second → after (outcome_of r table xs lent) (by_samples (after_of r table xs) table ys) ≡ by_samples r table (xs ++ ys)
session_of_more r table xs ys lent even back =
    let f = deliveries_of r table xs in
    let s = deliveries_of (after_of r table xs) table ys in
    let d = sym (delivered_append r table xs ys even back) in
    let receiver = sym (after_append r table xs ys even back) in
    let count = sym (length-append f s) ∙ ap length d in
    let overload = sym (overload_append xs ys even) in
    let dibits = ap (λ (l : List ℕ). l ++ dibits_in s) (dibits_are r table xs lent) ∙ sym (dibits_append f s) ∙ ap dibits_in d in
    let bytes = ap (λ (l : List ℕ). l ++ bytes_in s) (bytes_are r table xs lent) ∙ sym (bytes_append f s) ∙ ap bytes_in d in
    λ i. record { receiver = receiver i; count = count i; overload = overload i; dibits = dibits i; reliabilities = bytes i }

session_is : (r : Receiver) (table : List Float) (parts : List Part) → Typed r → AllAccepted r table parts → session_of r table parts ≡ by_samples r table (samples_in parts)
session_is r table [] t h = session_of_none r table t.memory
session_is r table (c ∷ parts) t h =
    ap (after (called r table c)) (session_is (called r table c).receiver table parts (block_kept r table c.samples c.rooms t h.0).typed h.1)
    ∙ ap (λ (o : Outcome). after o (by_samples o.receiver table (samples_in parts))) (accepted_is r table c.samples c.rooms h.0)
    ∙ session_of_more r table c.samples (samples_in parts) c.rooms (accepted_passes r table c.samples c.rooms h.0).even (passes_back r table c.samples c.rooms t (accepted_passes r table c.samples c.rooms h.0))

-- ANY CUTTING: accepted parts that take the same samples give the same dibits and reliabilities, the same k and overload in all, and the same state at the end, wherever their blocks begin and end, and whether one stream or both were asked for
pub any_cutting : (r : Receiver) (table : List Float) (parts others : List Part) → Typed r → AllAccepted r table parts → AllAccepted r table others → samples_in parts ≡ samples_in others → session_of r table parts ≡ session_of r table others
any_cutting r table parts others t a b e = session_is r table parts t a ∙ ap (by_samples r table) e ∙ sym (session_is r table others t b)

abbrev others_by_samples : Receiver → List Float → List Float → OtherSession
others_by_samples r table xs = record { others = dibits_in (other_deliveries_of r table xs); other_reliabilities = bytes_in (other_deliveries_of r table xs) }

others_of_none : (r : Receiver) (table : List Float) → other_session_of r table [] ≡ others_by_samples r table []
unfolding other_deliveries_of delivered_by front.front_of turns
others_of_none r table = refl

others_is : (r : Receiver) (table : List Float) (parts : List Part) → Typed r → AllAccepted r table parts → AllBoth parts → other_session_of r table parts ≡ others_by_samples r table (samples_in parts)
others_is r table [] t h b = others_of_none r table
others_is r table (c ∷ parts) t h b =
    let xs = c.samples in
    let ys = samples_in parts in
    let passes = accepted_passes r table xs c.rooms h.0 in
    let e = accepted_is r table xs c.rooms h.0 in
    let f = other_deliveries_of r table xs in
    let s = other_deliveries_of (after_of r table xs) table ys in
    let d = sym (others_append r table xs ys passes.even (passes_back r table xs c.rooms t passes)) in
    let others = ap (λ (l : List ℕ). l ++ dibits_in s) (others_are r table xs c.rooms h.0 b.0) ∙ sym (dibits_append f s) ∙ ap dibits_in d in
    let bytes = ap (λ (l : List ℕ). l ++ bytes_in s) (other_bytes_are r table xs c.rooms h.0 b.0) ∙ sym (bytes_append f s) ∙ ap bytes_in d in
    ap (others_after (called r table c)) (others_is (called r table c).receiver table parts (block_kept r table xs c.rooms t h.0).typed h.1 b.1)
    ∙ ap (λ (o : Outcome). others_after o (others_by_samples o.receiver table ys)) e
    ∙ (λ i. record { others = others i; other_reliabilities = bytes i })

-- ANY CUTTING OF BOTH STREAMS: where both are asked for in every part, the second stream's dibits and reliabilities are the same too
pub any_cutting_both : (r : Receiver) (table : List Float) (parts others : List Part) → Typed r → AllAccepted r table parts → AllAccepted r table others → AllBoth parts → AllBoth others → samples_in parts ≡ samples_in others
    → other_session_of r table parts ≡ other_session_of r table others
any_cutting_both r table parts others t a b p q e = others_is r table parts t a p ∙ ap (others_by_samples r table) e ∙ sym (others_is r table others t b q)

-- A BLOCK IN ANY PARTS: where a block is accepted, so is each of the blocks that it is cut into
pub cut_accepted : (r : Receiver) (table : List Float) (parts : List Part) (lent : Rooms) → Typed r → (block_of r table (samples_in parts) lent).number ≡ 0 → AllRoomy parts → AllAccepted r table parts
cut_accepted r table [] lent t h k = tt
cut_accepted r table (c ∷ parts) lent t h k =
    let e = k.0.0 in
    let n = count_append c.samples (samples_in parts) (omega arith) in
    let p = (accepted_passes r table (samples_in (c ∷ parts)) lent h).room in
    let a = p.dibits in
    let b = p.reliabilities in
    let i = block_in_two r table c.samples (samples_in parts) lent c.rooms lent t e h k.0.1 (record { dibits = omega arith; reliabilities = omega arith }) in
    let t' = (block_kept r table c.samples c.rooms t i.first_accepted).typed in
    (i.first_accepted, cut_accepted (called r table c).receiver table parts lent t' i.second_accepted k.1)
