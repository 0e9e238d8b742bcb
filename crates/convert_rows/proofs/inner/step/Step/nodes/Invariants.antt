-- No node before i has a fault, and what node i − 1 passes on is at hand.
use Rattle.convert_rows.proofs.Steps.{Stepping}
use Rattle.convert_rows.proofs.inner.step.Step.nodes.Given as goal

abbrev pub invariant-loop-i : goal.invariant-loop-i
invariant-loop-i l =
    Stepping l.self.row.width l.i l.self.corridor.links l.self.k l.self.corridor.words.now l.self.demand.row.now l.self.demand.downstream.0
    l.self.row.words.now l.self.after.words.now
    l.gained.0
