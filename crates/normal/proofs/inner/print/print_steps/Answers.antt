use native.Mathlib.Omega.{arith}
use Rattle.tables.proofs.Sets.{all}
use Rattle.normal.proofs.Printed.{steps_counted}
use Rattle.normal.proofs.inner.print.print_steps.Goals as goal

pub loop-k-init : goal.loop-k-init
loop-k-init c = search all

pub loop-k-preserved : goal.loop-k-preserved
loop-k-preserved c = (search all, λ t. c.print_step-step.ensures.0.told (c.loop-k.invariant.1 t))

pub returns : goal.returns
returns c = let inv = c.loop-k.invariant in
    let sum = steps_counted _ _ _ _ inv.0 (omega arith) c.requires.steps_value.0 c.requires.steps_value.1 in
    (record { bytes = sum.0; told = inv.1 }, sum.1)
