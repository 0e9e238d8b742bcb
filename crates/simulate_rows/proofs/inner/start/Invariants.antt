-- The first i nodes have their start.
use Rattle.road.specs.Run.{no_flow}
use Rattle.lists.specs.Words.{node_at}
use Rattle.simulate_rows.proofs.Rows.{Written}
use Rattle.simulate_rows.proofs.inner.start.Given as goal

abbrev pub invariant-loop-i : goal.invariant-loop-i
invariant-loop-i l = Written 2 l.i l.corridor.links (λ j. (node_at l.corridor.words.now j).start) (λ j. no_flow) (λ j. 0) l.initial.state l.state
