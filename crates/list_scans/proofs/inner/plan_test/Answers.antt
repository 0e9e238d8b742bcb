-- By the words that are read.
use Rattle.list_scans.specs.Scans.{node_fault}
use Rattle.list_scans.proofs.inner.plan_test.Goals as goal

pub returns : goal.returns
unfolding node_fault
returns c downstream = simp (c.plan_fault.ensures, c.limit_at-limit.ensures, c.rate_at-rate.ensures, c.ramp.ensures, c.link.ensures)
