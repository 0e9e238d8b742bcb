-- The row that is unpacked is that of the demands.
use Rattle.file_scans.proofs.Rows.{demand_found}
use Rattle.file_scans.proofs.inner.demand_at.Goals as goal

pub returns : goal.returns
returns c = demand_found _ _ _ _ _ c.row.ensures c.requires.k_lt_steps _ _ _ _ c.demand_row.ensures c.downstream-downstream.ensures
