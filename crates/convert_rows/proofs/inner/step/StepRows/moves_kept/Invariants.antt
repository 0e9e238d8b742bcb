-- No node before i has a fault, what node i − 1 passes on is at hand, and so are the vehicles and queues so far.
use Rattle.convert_rows.proofs.Quick.{Moving}
use Rattle.convert_rows.proofs.inner.step.StepRows.moves_kept.Given as goal

abbrev pub invariant-loop-i : goal.invariant-loop-i
invariant-loop-i l =
    Moving l.self.row.width l.i l.self.links l.self.table.now l.self.demand.row.now l.self.row.words.now l.self.after.words.now l.gained.0 l.cost
