use native.Mathlib.Omega.{arith}
use Rattle.tables.proofs.Sets.{all}
use Rattle.normal.proofs.Printed.{step_counted}
use Rattle.normal.proofs.inner.print.print_step.Goals as goal

pub loop-i-init : goal.loop-i-init
loop-i-init c = search all

pub loop-i-preserved : goal.loop-i-preserved
loop-i-preserved c = (search all, λ t. c.print_node-line.ensures.0.told (c.loop-i.invariant.1 t))

pub returns : goal.returns
returns c = let inv = c.loop-i.invariant in
    let sum = step_counted _ _ _ _ _ inv.0 (omega arith) c.requires.k_bound.1 c.requires.k_bound.2 in
    (record { bytes = sum.0; told = inv.1 }, sum.1)
