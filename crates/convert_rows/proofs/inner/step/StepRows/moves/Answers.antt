-- What the first loop found is what the second asks.
use Rattle.convert_rows.proofs.Quick.{flows_held}
use Rattle.convert_rows.proofs.inner.step.StepRows.moves.Goals as goal

pub moves_kept-requires : goal.moves_kept-requires
moves_kept-requires c = record { kept = c.requires; sent_kept = flows_held _ _ _ _ _ c.requires _ (c.flows_kept.ensures c.if-not-flows_kept.false) }
