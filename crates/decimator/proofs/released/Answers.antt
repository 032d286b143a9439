-- `released` meets its contract: what `combed` makes of each part's third sum.
use Rattle.std.proofs.Common.{to_z-of_z, w64, SFits, rules}
use Rattle.decimator.proofs.released.Goals as goal

pub returns : goal.returns
returns c =
    let u = c.combed-u in
    let v = c.combed-v in
    let h : SFits w64 u.result.value = search rules in
    let k : SFits w64 v.result.value = search rules in
    rw (to_z-of_z h, to_z-of_z k, u.ensures, v.ensures)
