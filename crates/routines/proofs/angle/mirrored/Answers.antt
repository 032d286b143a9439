-- `angle::mirrored` meets its contract: the angle from pi back where it lies to the left.
use Rattle.routines.proofs.AngleCode.{mirrored_left, mirrored_right}
use Rattle.routines.proofs.angle.mirrored.Goals as goal

pub returns-then-left : goal.returns-then-left
returns-then-left c = mirrored_left c.args.a c.args.left c.if-left.true

pub returns-else-left : goal.returns-else-left
returns-else-left c = mirrored_right c.args.a c.args.left c.if-left.false
