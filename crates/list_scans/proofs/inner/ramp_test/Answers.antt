-- By the words that are read.
use Rattle.list_scans.specs.Scans.{node_fault}
use Rattle.list_scans.proofs.inner.ramp_test.Goals as goal

pub returns : goal.returns
unfolding node_fault
returns c = simp (c.ramp_fault.ensures, c.ramp.ensures, c.identifier.ensures, c.fresh-fresh.ensures)
