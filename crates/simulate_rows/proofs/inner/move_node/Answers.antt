-- By what the node's words say, and rule 6.
use Rattle.simulate_rows.proofs.Steps.{node_moved}
use Rattle.simulate_rows.proofs.inner.move_node.Goals as goal

pub returns : goal.returns
returns c = node_moved _ _ _ _ c.requires.move_kept.0 _ _ _ _ c.state_at-here.ensures c.flows_at-passed.ensures c.split-split.ensures c.arrivals.ensures
    _ _ _ _ _ _ _ _ _ c.exit-left.ensures.0 c.put_node.ensures c.moved-next.ensures c.put_two.ensures c.outflow.ensures c.load.ensures
