-- The first i nodes have moved, and what link i gains and the sum so far are at hand.
use Rattle.simulate_rows.proofs.Steps.{Moving}
use Rattle.simulate_rows.proofs.inner.move_row.Given as goal

abbrev pub invariant-loop-i : goal.invariant-loop-i
invariant-loop-i l = Moving l.width l.i l.links l.demand.row.now l.flows l.initial.state l.state l.initial.row l.row l.gained.0 l.total
