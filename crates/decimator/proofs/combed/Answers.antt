-- `combed` meets its contract: each difference of two words is the one modulo 2^64.
use Rattle.std.proofs.Common.{to_z-of_z, w64, Fits, rules}
use Rattle.decimator.proofs.Steps.{Differences, combed_is}
use Rattle.decimator.proofs.Steps.{combed_is}
use Rattle.decimator.proofs.combed.Goals as goal

pub returns : goal.returns
returns c =
    let a = c.wrapping_sub_u64-second in
    let b = c.wrapping_sub_u64-third in
    let d = c.wrapping_sub_u64-last in
    let first : Fits w64 c.args.y.first = search rules in
    let second : Fits w64 c.args.y.second = search rules in
    let third : Fits w64 c.args.y.third = search rules in
    let words : Differences c.args.y c.args.sum a.result b.result d.result = record {
      sum_word = c.ranges.sum.fits;
      first_word = first.fits;
      second_word = second.fits;
      third_word = third.fits;
      a_word = a.type_inv;
      b_word = b.type_inv;
      c_word = d.type_inv;
    } in
    rw (to_z-of_z (record { sfits = c.signed.type_inv })) (combed_is c.args.y c.args.sum a.result b.result d.result c.signed.result words a.ensures.value b.ensures.value d.ensures.value c.signed.ensures)
