-- C and V, as they are read.
use Rattle.list_scans.proofs.Clear.{plan_most}
use Rattle.list_scans.proofs.inner.most.plan_most.Goals as goal

pub returns : goal.returns
returns c = plan_most _ _ _ _ _ c.ramp.ensures c.link.ensures
