-- N and the words of the first i nodes stand at the room's front.
use Rattle.std.proofs.Common.{◌+◌, ◌*◌, ◌≡◌, take}
use Rattle.nodes.specs.Nodes.{corridor_words}
use Rattle.nodes.proofs.inner.words_of_nodes.Given as goal

abbrev pub invariant-loop-i : goal.invariant-loop-i
invariant-loop-i l = take (l.i * 11 + 1) l.room ≡ take (l.i * 11 + 1) (corridor_words l.nodes)
