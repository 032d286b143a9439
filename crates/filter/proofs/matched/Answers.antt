-- `filter::matched` meets its contract: the windows of the samples laid out apart are those of the ring, with the arm's taps.
use Rattle.filter.proofs.Laws.{matched_is}
use Rattle.filter.proofs.matched.Goals as goal

pub returns : goal.returns
returns c =
    let is_taps = c.arm_taps.ensures in
    let is_derivatives = c.arm_taps-2.ensures in
    let is_even_real = c.every_second.ensures in
    let is_odd_real = c.every_second-2.ensures in
    let is_even_imaginary = c.every_second-3.ensures in
    let is_odd_imaginary = c.every_second-4.ensures in
    matched_is _ _ _ _ _ _ _ _ _ _ _ _ _ is_taps is_derivatives is_even_real is_odd_real is_even_imaginary is_odd_imaginary c.windows.ensures
