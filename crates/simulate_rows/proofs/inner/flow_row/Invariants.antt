-- The flows of the first i nodes are written.
use Rattle.simulate_rows.proofs.Steps.{Flowing}
use Rattle.simulate_rows.proofs.inner.flow_row.Given as goal

abbrev pub invariant-loop-i : goal.invariant-loop-i
invariant-loop-i l = Flowing l.table l.links l.demand.row.now l.demand.downstream.0 l.plan l.state l.i l.initial.flows l.flows
