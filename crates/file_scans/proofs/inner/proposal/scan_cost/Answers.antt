-- The fault decides.
use Rattle.file_scans.proofs.Scans.{cost_read}
use Rattle.file_scans.proofs.inner.proposal.scan_cost.Goals as goal

pub returns : goal.returns
returns c = cost_read _ _ _ _ _ _ _ _ _ c.cost_words-low.ensures.low c.cost_words-low.ensures.high c.total_fault.ensures c.requires c.placed.ensures
