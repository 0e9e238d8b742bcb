-- The flows leave to the moves what these ask.
use Rattle.simulate_rows.proofs.Steps.{moves_fit}
use Rattle.simulate_rows.proofs.inner.step.Goals as goal

pub move_row-requires : goal.move_row-requires
move_row-requires c = (moves_fit _ _ _ _ _ _ _ c.flow_row.ensures c.requires.rows_fit.0, c.requires.row_fits.0, c.requires.row_fits.1)
