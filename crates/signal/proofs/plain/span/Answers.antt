-- `signal::plain::span` meets its contract: the wrapped difference is the definition's remainder.
use Rattle.std.proofs.Common.{◌+◌, ◌*◌, ◌%◌, rules}
use lib.Ieee.{binary32, fits, to_bits}
use lib.Ieee.Bits.{is_true}
use Rattle.laws.specs.Branches.{cond_then}
use Rattle.signal.proofs.plain.span.Goals as goal

pub returns : goal.returns
returns c =
    let x = c.args.x in
    cond_then (fits binary32 x) ((to_bits binary32 x % 2147483648 * 2 + 4294967295) % 4294967296) 0 c.wrapping_sub_u32.result (is_true _ (search rules)) (search rules)
