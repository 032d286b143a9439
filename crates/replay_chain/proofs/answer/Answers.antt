-- `replay_chain::answer` is safe: the state that it makes may be run.
use mathlib.Core.Path.{sym, ap, ◌∙◌}
use lib.ListN.{length}
use Rattle.laws.specs.Places.{length_upto}
use Rattle.sequence.specs.Sequence.{fresh_real}
use Rattle.clock.specs.AdmittedLaws.{admitted_facts}
use Rattle.replay_chain.proofs.answer.Goals as goal

pub run-requires : goal.run-requires
unfolding fresh_real
run-requires c =
    let q = c.requires in
    record {
      recovery = record {
        keeper = record { head = q.keeper_head; fill = q.keeper_fill; real_size = c.fill_planes-s1.ensures.real; imaginary_size = c.fill_planes-s1.ensures.imaginary };
        clock = admitted_facts _ (sym c.is_admitted.ensures ∙ c.if-not-is_admitted.false);
      };
      decisions = record {
        carrier = record {
          alternation = q.alternation;
          detector = record {
            skeleton = record {
              place = record { write = c.made_place-made.ensures.0; filled = c.made_place-made.ensures.1; earlier = c.made_place-made.ensures.2 };
              table = c.fill_parents-s6.ensures.0;
              costs_size = c.fill-s5.ensures;
              parents_size = c.fill_parents-s6.ensures.1;
            };
            real_size = c.fill_planes-s4.ensures.real ∙ ap length c.fresh_channels.ensures ∙ length_upto _ _;
            imaginary_size = c.fill_planes-s4.ensures.imaginary;
          };
        };
        view = record { head = q.view_head; count = q.view_count };
      };
      second = λ on. c.made_second-second.ensures.ranged;
      delivery = record { locked = q.locked };
    }
