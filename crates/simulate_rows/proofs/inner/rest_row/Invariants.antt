-- The first i nodes have their state, and no flow.
use Rattle.road.specs.Run.{no_flow}
use Rattle.lists.specs.Rows.{state_in}
use Rattle.simulate_rows.proofs.Rows.{Written}
use Rattle.simulate_rows.proofs.inner.rest_row.Given as goal

abbrev pub invariant-loop-i : goal.invariant-loop-i
invariant-loop-i l = Written l.width l.i l.links (state_in 2 l.state) (λ j. no_flow) (λ j. 0) l.initial.row l.row
