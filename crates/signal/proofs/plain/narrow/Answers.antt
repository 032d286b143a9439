-- `signal::plain::narrow` meets its contract: rounding the pattern in place is narrowing, since the number is zero or a normal f32's size.
use Rattle.std.proofs.Common.{arith}
use Rattle.signal.proofs.Quotients.{in_place_lem, in_place_number, in_place_exact, in_place_room}
use Rattle.signal.proofs.plain.narrow.Goals as goal

pub float_to_bits-b : goal.float_to_bits-b
float_to_bits-b c = c.requires.number

pub overflow_add-z : goal.overflow_add-z
overflow_add-z c = omega (arith, in_place_room c.args.x c.requires)

pub overflow_add-z-2 : goal.overflow_add-z-2
overflow_add-z-2 c = omega (arith, in_place_room c.args.x c.requires)

pub overflow_mul-z : goal.overflow_mul-z
overflow_mul-z c = omega (arith, in_place_room c.args.x c.requires)

pub float_from_bits-result : goal.float_from_bits-result
float_from_bits-result c = in_place_number c.args.x c.requires

pub float_to_float-result : goal.float_to_float-result
float_to_float-result c = in_place_exact c.args.x c.requires

pub returns : goal.returns
returns c = in_place_lem c.args.x c.requires
