use native.Mathlib.Omega.{arith}
use Rattle.simulate_rows.proofs.Steps.{moving_begun, moving_asks, moving_more, moving_ended}
use Rattle.simulate_rows.proofs.inner.move_row.Goals as goal

pub loop-i-init : goal.loop-i-init
loop-i-init c = moving_begun _ _ _ _ _ _ c.requires.0.state_fits c.requires.1

pub move_node-moved-requires : goal.move_node-moved-requires
move_node-moved-requires c =
    let all = moving_asks _ _ _ _ _ _ _ _ _ _ _ c.loop-i.invariant c.requires.0 (omega arith) c.requires.2 in
    record { node_in = all.0; move_kept = all.1 }

pub loop-i-preserved : goal.loop-i-preserved
loop-i-preserved c = moving_more _ _ _ _ _ _ _ _ _ _ _ c.loop-i.invariant _ _ _ _ c.requires.2 (omega arith) c.move_node-moved.ensures

pub returns : goal.returns
returns c = moving_ended _ _ _ _ _ _ _ _ _ _ _ c.loop-i.invariant (omega arith) c.requires.0.few
