-- `replay_chain::row` is safe, and leaves a chain that may be run.
use mathlib.Core.Path.{refl, sym}
use native.Mathlib.Omega.{arith}
use lib.Seq.{length-take-le}
use Rattle.replay_chain.specs.Laws.{lent_rooms}
use borrow.Author.Rules.{rules}
use Rattle.replay_chain.proofs.row.Goals as goal

pub overflow_mul-pairs : goal.overflow_mul-pairs
overflow_mul-pairs c = omega (arith, c.room-room.ensures.most)

pub slice_bounds-chain-end-4 : goal.slice_bounds-chain-end-4
slice_bounds-chain-end-4 c =
    sym (length-take-le _ _ c.room-room.ensures.most)

pub slice_bounds-chain-end-5 : goal.slice_bounds-chain-end-5
slice_bounds-chain-end-5 c =
    sym (length-take-le _ _ (omega (arith, c.room-room.ensures.most)))

pub chain-r-requires : goal.chain-r-requires
chain-r-requires c =
    let asked = c.requires in record {
      given = record {
        state = asked.ranged;
        symbols = omega (arith, asked.symbols_bound, asked.made_bound);
        room = record { dibits = search (rules, asked.made_bound, asked.before_bound); reliabilities = search (rules, asked.made_bound, asked.before_bound) };
        other = lent_rooms _ _ _ _ _ _ c.room-room.ensures.value refl refl asked.made_bound asked.before_bound;
      };
      made_bound = asked.made_bound;
    }

pub returns : goal.returns
returns c =
    c.chain-r.ensures.1.ranged
