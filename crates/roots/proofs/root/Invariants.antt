-- `root` meets its contract: after each digit the root so far and what is left make up the digits read so far.
use Rattle.numbers.specs.Roots.{Digits}
use Rattle.roots.proofs.root.Given as goal

abbrev pub invariant-loop-i : goal.invariant-loop-i
invariant-loop-i l = Digits l.n l.i l.q l.rem l.rest
