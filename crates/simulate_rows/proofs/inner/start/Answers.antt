use native.Mathlib.Omega.{arith}
use Rattle.simulate_rows.specs.Rows.{start_row}
use Rattle.simulate_rows.proofs.Rows.{state_more, written_ended}
use Rattle.simulate_rows.proofs.inner.start.Goals as goal

pub loop-i-preserved : goal.loop-i-preserved
loop-i-preserved c = state_more _ _ _ _ _ _ _ c.loop-i.invariant (omega arith) c.start-first.ensures c.put_two.ensures

pub returns : goal.returns
unfolding start_row
returns c = written_ended _ _ _ _ _ _ _ _ c.loop-i.invariant (omega arith)
