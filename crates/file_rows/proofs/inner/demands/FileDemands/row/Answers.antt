-- The row starts where the demands' rows before it end, and is as long as the list that is lent.
use Rattle.file_rows.proofs.Rows.{demand_holds}
use Rattle.file_rows.proofs.inner.demands.FileDemands.row.Goals as goal

pub unpack-requires : goal.unpack-requires
unpack-requires c = demand_holds _ _ _ _ _ c.row_at-at.ensures.1 c.args.self.holds c.requires.1
