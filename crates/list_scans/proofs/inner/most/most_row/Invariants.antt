-- The first i nodes have their bounds.
use Rattle.std.proofs.Common.{ℕ, List, ◌+◌, ◌≤◌}
use Rattle.tables.proofs.Grid.{Placed}
use Rattle.list_scans.specs.Scans.{NodeTest, MostAre, most_word}
use Rattle.list_scans.proofs.inner.most.most_row.Given as goal

abbrev pub invariant-loop-i : goal.invariant-loop-i
invariant-loop-i g l = (test : NodeTest) (corridor : List ℕ)
    → ((i : ℕ) (r : _) → i ≤ l.links → goal.F-post g l.bound i r → MostAre test corridor l.links i r.first r.second)
    → Placed 2 l.i (l.links + 1) (most_word test corridor l.links) l.initial.most l.most
