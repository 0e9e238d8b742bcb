use native.Mathlib.Omega.{arith}
use Rattle.simulate_rows.proofs.Steps.{flowing_more, flowing_ended}
use Rattle.simulate_rows.proofs.inner.flow_row.Goals as goal

pub loop-i-preserved : goal.loop-i-preserved
loop-i-preserved c =
    flowing_more _ _ _ _ _ _ _ _ _ _ _ _ c.loop-i.invariant (omega arith) c.receiving_at-supply.ensures c.plan_flows-passed.ensures c.put_two.ensures

pub returns : goal.returns
returns c = flowing_ended _ _ _ _ _ _ _ _ _ _ _ c.loop-i.invariant (omega arith) c.plan_flows-last.ensures c.put_two-2.ensures
