-- `chain::chain` meets its contract: a row without values changes nothing; another goes through the stages, which give what the values give one by one.
use mathlib.Core.Path.{refl}
use Rattle.chain.specs.Laws.{recover_asks, later_asks, chain_quiet, chain_is}
use Rattle.chain.specs.RowLaws.{chain_still}
use Rattle.chain.proofs.chain.Goals as goal

pub returns-then-made-eq0 : goal.returns-then-made-eq0
returns-then-made-eq0 c =
    chain_still _ _ _ _ c.if-made-eq0.true c.requires.given.state

pub recover-r-requires : goal.recover-r-requires
recover-r-requires c =
    recover_asks _ _ _ c.requires.given.state.recovery c.requires.made_bound refl refl refl refl

pub returns-then-r-eq0 : goal.returns-then-r-eq0
returns-then-r-eq0 c =
    let asked = recover_asks _ _ _ c.requires.given.state.recovery c.requires.made_bound refl refl refl refl in
    chain_quiet _ _ _ _ _ refl _ c.recover-r.ensures.0 asked c.requires.given.state _ _ c.delivery_place-undelivered.ensures c.if-r-eq0.true c.joined.ensures

pub later-l-requires : goal.later-l-requires
later-l-requires c =
    let b = later_asks _ _ _ _ _ refl _ c.recover-r.ensures.0 _ _ c.delivery_place-undelivered.ensures c.requires.made_bound c.requires.given in
    record { given_later = b.0; count_bound = b.1 }

pub returns : goal.returns
returns c =
    let asked = recover_asks _ _ _ c.requires.given.state.recovery c.requires.made_bound refl refl refl refl in
    chain_is _ _ _ _ _ refl _ c.recover-r.ensures.0 asked c.requires.given.state _ _ c.delivery_place-undelivered.ensures _ c.later-l.ensures c.joined-2.ensures
