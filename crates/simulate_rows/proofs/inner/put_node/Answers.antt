-- Four stores, each within the row, and the fifth where the row has the word.
use Rattle.simulate_rows.specs.Rows.{put_node}
use Rattle.simulate_rows.proofs.inner.put_node.Goals as goal

pub returns : goal.returns
unfolding put_node
returns c = c.put_exit.ensures
