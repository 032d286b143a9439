-- `sized` meets its contract: each of its roundings is of 0 to 1,024, and an admitted rate gives dimensions in range.
use Rattle.std.proofs.Common.{sym, subst}
use Rattle.resampler.specs.Admitted.{Sized}
use Rattle.resampler.specs.Ranges.{sized_in, decimated_in, quotient_countable, product_countable, decimated_code, sized_code}
use Rattle.resampler.specs.Dimensions.{decimated_of}
use Rattle.resampler.proofs.dimensions.sized.Goals as goal

pub nearest-requires : goal.nearest-requires
nearest-requires c = quotient_countable c.args.rate c.requires

pub nearest-requires-2 : goal.nearest-requires-2
nearest-requires-2 c =
    let rate = c.args.rate in
    let nearest = c.nearest in
    let floored = c.at_least-decimation in
    rw (decimated_code rate nearest.result floored.result c.nearest_u64_to_f64.result nearest.ensures floored.ensures c.nearest_u64_to_f64.ensures)
    (product_countable (decimated_of rate) (decimated_in rate c.requires))

pub returns : goal.returns
returns c =
    let nearest = c.nearest in
    let floored = c.at_least-decimation in
    let float = c.nearest_u64_to_f64 in
    let e = sized_code c.args.rate nearest.result floored.result float.result nearest.ensures floored.ensures float.ensures
    c.nearest-2.result c.at_least-arm.result c.nearest-2.ensures c.at_least-arm.ensures in
    record { same = e; ranges = subst Sized (sym e) (sized_in c.args.rate c.requires) }
