use native.Mathlib.Omega.{arith}
use Rattle.convert.proofs.Rows.{demand_viewed, record_viewed, plan_row_kept}
use Rattle.convert.proofs.Settings.{plan_viewed, plan_ended}
use Rattle.convert.proofs.inner.proposal.Proposal.write_plan.Goals as goal

pub plan_row-requires-clause-rows_kept : goal.plan_row-requires-clause-rows_kept
plan_row-requires-clause-rows_kept c =
    let ready = c.args.self.ready in
    let same = c.args.self.same in
    plan_row_kept _ _ _ _ _ _ ready _ _ _ (demand_viewed _ _ _ _ _ _ ready _ _ _ same.0 (omega arith) c.step.ensures.row)
    (record_viewed _ _ _ _ _ _ ready c.loop-k.k _ _ _ same.1 (omega arith) c.row.ensures.row) (omega arith) c.requires.accepted _ c.row.ensures.width

pub loop-k-preserved : goal.loop-k-preserved
loop-k-preserved c =
    let ready = c.args.self.ready in
    let same = c.args.self.same in
    plan_viewed _ _ _ _ _ _ ready _ _ _ _ _ _ _ _ _ _ _ _ c.loop-k.invariant (omega arith) (omega (arith, c.nodes-width.ensures)) c.row_at-at.ensures.0
    same.0 same.1 c.row.ensures.width c.step.ensures.row c.row.ensures.row c.step.ensures.downstream c.plan_row.ensures

pub returns : goal.returns
returns c = plan_ended _ _ _ _ _ _ c.args.self.ready _ _ _ c.loop-k.invariant (omega arith)
