use Prim.Native.Nat.{◌+◌}
use mathlib.Core.Path.{ap, ◌∙◌}
use native.Mathlib.Omega.{arith}
use Rattle.tables.proofs.Sum.{summed_begun, summed_more}
use Rattle.road.specs.Corridor.{NodeState}
use Rattle.simulate_rows.proofs.Rows.{row_summed}
use Rattle.simulate_rows.proofs.inner.row_cost.Goals as goal

pub loop-i-init : goal.loop-i-init
loop-i-init c = summed_begun _ _ _

pub loop-i-preserved : goal.loop-i-preserved
loop-i-preserved c =
    summed_more _ _ _ _ _ _ c.loop-i.invariant (omega arith)
    (c.load-total.ensures.0 ∙ ap (λ (x : NodeState). x.vehicles + x.queue) c.state.ensures) c.load-total.ensures.1

pub returns : goal.returns
returns c = row_summed _ _ _ _ _ c.loop-i.invariant (omega arith) (omega arith)
