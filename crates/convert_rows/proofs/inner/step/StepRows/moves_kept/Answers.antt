use Prim.Native.Nat.{ℕ}
use mathlib.Core.Path.{ap, ◌∙◌}
use native.Mathlib.Omega.{arith}
use Rattle.lists.specs.Rows.{state_in}
use Rattle.convert_rows.proofs.Quick.{moving_begun, moving_more, moving_ended}
use Rattle.convert_rows.proofs.inner.step.StepRows.moves_kept.Goals as goal

pub loop-i-init : goal.loop-i-init
loop-i-init c = moving_begun _ _ _ _ _ _

pub loop-i-preserved : goal.loop-i-preserved
loop-i-preserved c =
    let self = c.args.self.now in
    moving_more _ _ _ _ _ _ _ _ _ _ c.state-next.result c.loop-i.invariant (omega arith)
    (c.node_moves.ensures c.if-not-node_moves.false) c.outflow_at-gained.ensures.0 c.outflow_at-gained.ensures.1
    (c.state-next.ensures ∙ ap (λ (w : ℕ). state_in w self.after.words.now c.loop-i.i) self.next.1) (omega arith)

pub returns : goal.returns
returns c = moving_ended _ _ _ _ _ _ _ _ _ c.loop-i.invariant (omega arith) c.requires.kept.rows.corridor_fits.few
