-- `clock::tick::ticked` meets its contract: the ring has room, since its count is below 256; the sample goes to its end.
use Rattle.std.proofs.Common.{refl, arith}
use Rattle.clock.proofs.Laws.{assertion_holds, taken_hot, taken_first, ticked_is, after_of}
use Rattle.clock.proofs.tick.ticked.Goals as goal

pub overflow_add-at : goal.overflow_add-at
overflow_add-at c = let h = assertion_holds _ c.requires in let s = c.requires.start in omega arith

pub overflow_add-c : goal.overflow_add-c
overflow_add-c c = let h = assertion_holds _ c.requires in omega arith

pub timed-requires : goal.timed-requires
timed-requires c = record { warm_taken = (λ w. taken_hot _ c.requires w); cold_taken = (λ w. taken_first _ c.requires w) }

pub returns : goal.returns
returns c = record { same = ticked_is _ _ _ _ _ _ refl c.timed.ensures; kept = after_of _ _ c.requires c.timed.ensures }
