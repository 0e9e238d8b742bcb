-- The first line, then those of all steps.
use native.Mathlib.Omega.{arith}
use Rattle.normal.proofs.Printed.{plan_counted}
use Rattle.normal.proofs.inner.print.print_plan.Goals as goal

pub returns : goal.returns
returns c = let steps = c.print_steps-rest.ensures.0 in
    let head = c.print_head-first.ensures.0 in
    record { bytes = plan_counted _ _ _ _ head.bytes steps.bytes (omega arith); told = λ t. steps.told (head.told t) }
