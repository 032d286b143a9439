-- Which parts the quantiser takes by an addition: those of less than 512. Definitions only.
use Rattle.std.specs.Prelude.{Bool, true, false, ◌&&◌, pos, Float}
use Rattle.std.specs.Float.{fin}
use Rattle.std.specs.Float.Ieee.{lt}

-- strictly between -512 and 512
unfoldable pub within : Float → Bool
within x = lt (fin true 1 (pos 9)) x && lt x (fin false 1 (pos 9))
