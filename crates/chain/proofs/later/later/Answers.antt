-- `later` meets its contract: a row decided by the first and, where it is enabled, by the second, and what both answer told.
use mathlib.Core.Path.{refl}
use Rattle.chain.specs.LaterLaws.{later_both, later_one}
use Rattle.chain.proofs.later.later.Goals as goal

pub decide-decided-requires : goal.decide-decided-requires
decide-decided-requires c =
    record { given_row = record { state = c.requires.given_later.state; answers = record { flags = refl; bytes = refl } }; count_bound = c.requires.count_bound }

pub decide-second-requires : goal.decide-second-requires
decide-second-requires c =
    record { given = record { state = c.requires.given_later.second c.if-first.true; answers = record { flags = refl; bytes = refl } }; count_bound = c.requires.count_bound }

pub tell-delivered-requires : goal.tell-delivered-requires
tell-delivered-requires c =
    record { given_rooms = record { delivery = c.requires.given_later.delivery; other = c.requires.given_later.other }; count_bound = c.requires.count_bound }

pub returns-then-first : goal.returns-then-first
returns-then-first c =
    let told = c.before.before.before.before.before.before.before.before in
    later_both _ _ _ _ _ _ _ c.requires.count_bound c.requires.given_later.state (record { flags = refl; bytes = refl }) c.decide-decided.ensures.0 _ _ _ _
    c.if-first.true (c.requires.given_later.second c.if-first.true) (record { flags = refl; bytes = refl })
    c.decide-second.ensures.leaves.0 c.tell-delivered.ensures.0 c.tell-delivered.ensures.1

pub tell-delivered-requires-2 : goal.tell-delivered-requires-2
tell-delivered-requires-2 c =
    record { given_rooms = record { delivery = c.requires.given_later.delivery; other = c.requires.given_later.other }; count_bound = c.requires.count_bound }

pub returns : goal.returns
returns c =
    later_one _ _ _ _ _ _ _ c.requires.count_bound c.requires.given_later.state (record { flags = refl; bytes = refl }) c.decide-decided.ensures.0 _ _
    c.if-first.false c.tell-delivered-2.ensures.0 c.tell-delivered-2.ensures.1
