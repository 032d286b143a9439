-- `signal::plain::quotient` meets its contract: a plain part over a plain amplitude is zero or of a normal f32's size.
use Rattle.std.proofs.Common.{refl}
use denote.Floats.{passes}
use Rattle.signal.proofs.Quotients.{plain_exact, usual_quotient}
use Rattle.signal.proofs.plain.quotient.Goals as goal

pub float_to_float-result : goal.float_to_float-result
float_to_float-result c = plain_exact c.args.x c.row_known-1.given (passes _ c.requires.x_value)

pub returns : goal.returns
returns c = record { same = refl; usual = usual_quotient c.args.x c.args.amplitude (passes _ c.requires.x_value) c.requires.plain_amplitude }
