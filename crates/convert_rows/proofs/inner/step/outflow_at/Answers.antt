-- By the flows and the split that are read.
use Rattle.convert_rows.proofs.Steps.{outflow_is}
use Rattle.convert_rows.proofs.inner.step.outflow_at.Goals as goal

pub returns : goal.returns
returns c =
    let a = c.args in
    outflow_is _ a.demand.row.now a.row.words.now a.i _ _ c.flows.ensures c.split.ensures _ c.requires.flows_bound c.outflow.ensures
