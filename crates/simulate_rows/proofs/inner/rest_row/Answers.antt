use mathlib.Core.Path.{refl}
use native.Mathlib.Omega.{arith}
use Rattle.road.specs.Run.{no_flow}
use Rattle.simulate_rows.proofs.Rows.{written_more, written_ended}
use Rattle.simulate_rows.proofs.inner.rest_row.Goals as goal

pub loop-i-preserved : goal.loop-i-preserved
unfolding no_flow
loop-i-preserved c = written_more _ _ _ _ _ _ _ _ _ _ _ _ c.requires.2 c.loop-i.invariant (omega arith) c.state_at.ensures refl refl c.put_node.ensures

pub returns : goal.returns
returns c = written_ended _ _ _ _ _ _ _ _ c.loop-i.invariant (omega arith)
