-- `absorbed` meets its contract: what `integrated` makes of each part.
use Rattle.std.proofs.Common.{to_z-of_z, w64, SFits, rules}
use Rattle.decimator.proofs.absorbed.Goals as goal

pub returns : goal.returns
returns c =
    let h : SFits w64 c.args.n.real = search rules in
    let k : SFits w64 c.args.n.imaginary = search rules in
    rw (c.integrated-2.ensures, c.integrated.ensures, to_z-of_z h, to_z-of_z k)
