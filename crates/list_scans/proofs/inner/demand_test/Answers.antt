-- By the words that are read.
use Rattle.list_scans.specs.Scans.{node_fault}
use Rattle.list_scans.proofs.inner.demand_test.Goals as goal

pub returns : goal.returns
unfolding node_fault
returns c = simp (c.demand_fault.ensures, c.split.ensures, c.arrivals.ensures)
