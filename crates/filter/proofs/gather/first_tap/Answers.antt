-- `filter::gather::first_tap` meets its contract: only arm 0 reaches the table's last place.
use Rattle.filter.proofs.Laws.{tap_first, tap_past}
use borrow.Author.Rules.{rules}
use Rattle.filter.proofs.gather.first_tap.Goals as goal

pub returns-then-arm-eq0 : goal.returns-then-arm-eq0
returns-then-arm-eq0 c = tap_first _ _ (search rules)

pub returns-else-arm-eq0 : goal.returns-else-arm-eq0
returns-else-arm-eq0 c = tap_past _ _ (search rules)
