-- The table has node i's words.
use Rattle.convert_rows.proofs.Quick.{in_table}
use Rattle.convert_rows.proofs.inner.step.StepRows.node_moves.Goals as goal

pub ramp_at-ramp-requires : goal.ramp_at-ramp-requires
ramp_at-ramp-requires c = in_table _ _ _ _ c.requires.kept.told c.requires.i_le_links
