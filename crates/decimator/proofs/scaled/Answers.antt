-- `scaled` meets its contract: each part as a float, times the scale, narrowed once.
use Rattle.std.proofs.Common.{to_z-of_z, w64, SFits, rules}
use Rattle.decimator.proofs.scaled.Goals as goal

pub returns : goal.returns
returns c =
    let float = c.float in
    let scale = c.scale-k in
    let h : SFits w64 c.args.n.real = search rules in
    let k : SFits w64 c.args.n.imaginary = search rules in
    rw (c.narrow-2.ensures, c.narrow.ensures, c.float-2.ensures, float.ensures, scale.ensures, to_z-of_z h, to_z-of_z k)
