-- `best::cheapest` meets its contract: the first cheapest of each quarter of the states, and of these four the first cheapest, is the first cheapest of all.
use native.Mathlib.Omega.{arith}
use Rattle.trellis.specs.Best.{scan_start, scan_step, quarters}
use borrow.Author.Rules.{rules}
use Rattle.trellis.proofs.best.cheapest.Goals as goal

pub loop-k-init : goal.loop-k-init
loop-k-init c = (scan_start _ _, scan_start _ _, scan_start _ _, scan_start _ _)

pub loop-k-preserved : goal.loop-k-preserved
loop-k-preserved c =
    let scanned = c.loop-k.invariant in
    let first = c.nearer-a.ensures in
    let second = c.nearer-b.ensures in (
      scan_step _ _ _ _ _ _ (omega arith) first scanned.0,
      scan_step _ _ _ _ _ _ (omega arith) second scanned.1,
      scan_step _ _ _ _ _ _ (omega arith) c.nearer-c.ensures scanned.2,
      scan_step _ _ _ _ _ _ (omega arith) c.nearer-d.ensures scanned.3,
    )

pub returns : goal.returns
returns c =
    let plain = c.requires in
    let scanned = c.loop-k.invariant in
    quarters _ _ _ _ _ _ _ _ _ plain (search rules) (search rules)
    scanned.0 scanned.1 scanned.2 scanned.3
    c.nearer-ab.ensures c.nearer-abc.ensures c.nearer.ensures
