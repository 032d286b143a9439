-- `tap_place` meets its contract: a tap of the first 32 c stands within them.
use Rattle.std.proofs.Common.{◌%◌, refl, mod-lt, arith, lit<}
use Rattle.resampler.specs.Taps.{place_in}
use Rattle.resampler.proofs.Window.{base_small}
use Rattle.resampler.proofs.design.tap_place.Goals as goal

pub overflow_mul-result : goal.overflow_mul-result
overflow_mul-result c = omega (arith, base_small (c.args.i % 32) c.args.arm (mod-lt c.args.i (lit< tt)) c.requires.arm_bound)

pub overflow_add-result : goal.overflow_add-result
overflow_add-result c = omega (arith, place_in c.args.arm (omega arith) c.args.i c.requires.i_bound)

pub returns : goal.returns
returns c = record { same = refl; inside = place_in c.args.arm (omega arith) c.args.i c.requires.i_bound }
