-- `filter::group` meets its contract: the two ways, by whether it is the last group, are the definition's.
use Rattle.filter.proofs.Laws.{group_low, group_high}
use borrow.Author.Rules.{rules}
use Rattle.filter.proofs.group.Goals as goal

pub returns-then-g-lt5-clause-is : goal.returns-then-g-lt5-clause-is
returns-then-g-lt5-clause-is c = group_low _ (search rules)

pub returns-else-g-lt5-clause-is : goal.returns-else-g-lt5-clause-is
returns-else-g-lt5-clause-is c = group_high _ (search rules)
