-- None of the first j nodes has the identifier of node i.
use Rattle.lists.specs.Words.{node_at}
use Rattle.list_scans.proofs.Identifiers.{Unseen}
use Rattle.list_scans.proofs.inner.identifiers.fresh.Given as goal

abbrev pub invariant-loop-j : goal.invariant-loop-j
invariant-loop-j l = Unseen l.j l.i (λ y. (node_at l.corridor.words.now y).identifier)
