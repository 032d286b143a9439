-- `integrated` meets its contract: each sum of two words is the one modulo 2^64.
use Rattle.std.proofs.Common.{ap, ◌∙◌, to_z-of_z}
use Rattle.numbers.specs.Bits.{unsigned_of}
use Rattle.decimator.proofs.Steps.{integrated_is}
use Rattle.decimator.proofs.integrated.Goals as goal

pub returns : goal.returns
returns c =
    let a = c.wrapping_add_u64-first in
    let b = c.wrapping_add_u64-second in
    let e = c.unsigned in
    integrated_is c.args.s c.args.n e.result a.result b.result c.wrapping_add_u64-third.result c.ranges.n.sfits
    (e.ensures ∙ ap unsigned_of (to_z-of_z c.ranges.n)) a.ensures.value b.ensures.value c.wrapping_add_u64-third.ensures.value
