-- `counted` meets its contract: each part is quantised.
use Rattle.std.proofs.Common.{to_z-of_z}
use Rattle.decimator.proofs.counted.Goals as goal

pub returns : goal.returns
returns c = rw (to_z-of_z (record { sfits = c.quantised.type_inv }), to_z-of_z (record { sfits = c.quantised-2.type_inv }), c.quantised.ensures, c.quantised-2.ensures)
