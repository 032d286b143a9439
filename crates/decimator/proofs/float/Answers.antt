-- `float` meets its contract: below 2^53 in size the cast is exact, and from there on `from_i64` rounds.
use Rattle.std.proofs.Common.{ap, ◌∙◌, to_z-of_z}
use Rattle.decimator.proofs.Steps.{small_float}
use lib.Ieee.{binary64, of_int}
use Rattle.decimator.proofs.float.Goals as goal

pub int_to_float-result : goal.int_to_float-result
int_to_float-result c = rw (to_z-of_z c.ranges.n) (small_float c.args.n (rw (to_z-of_z c.ranges.n) at c.if-n-gtminus9007199254740992.true) (rw (to_z-of_z c.ranges.n) at c.if-n-lt9007199254740992.true))

pub returns-then-n-lt9007199254740992 : goal.returns-then-n-lt9007199254740992
returns-then-n-lt9007199254740992 c = ap (of_int binary64) (to_z-of_z c.ranges.n)

pub returns-else-n-gtminus9007199254740992 : goal.returns-else-n-gtminus9007199254740992
returns-else-n-gtminus9007199254740992 c = c.from_i64.ensures ∙ ap (of_int binary64) (to_z-of_z c.ranges.n)
