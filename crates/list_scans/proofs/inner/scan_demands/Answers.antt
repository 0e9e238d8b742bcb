-- By the row of each step.
use Rattle.std.proofs.Common.{rules}
use Rattle.list_scans.proofs.inner.scan_demands.Goals as goal

pub returns : goal.returns
returns c = c.first.ensures _ (λ k r h p. search rules)
