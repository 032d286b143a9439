-- `raw_tap` meets its contract: the wave under the window, in f64, narrowed once.
use Rattle.resampler.specs.Design.{raw_tap_of}
use Rattle.resampler.proofs.design.raw_tap.Goals as goal

pub returns : goal.returns
unfolding raw_tap_of
returns c =
    let nearest_u64_to_f64 = c.nearest_u64_to_f64-place in
    rw (c.narrow.ensures, c.wave.ensures, c.cosine.ensures, c.nearest_u64_to_f64-end.ensures, nearest_u64_to_f64.ensures)
