-- By the words that are read.
use native.Mathlib.Omega.{arith}
use Rattle.lists.specs.Words.{node_at}
use Rattle.lists.proofs.Corridors.{nine_words}
use Rattle.lists.proofs.inner.corridor.Corridor.ramp.Goals as goal

pub word-requires : goal.word-requires
word-requires c = (c.requires, nine_words _ _ _ (omega arith))

pub word-requires-2 : goal.word-requires-2
word-requires-2 c = (c.requires, nine_words _ _ _ (omega arith))

pub returns : goal.returns
unfolding node_at
returns c = simp (c.word.ensures, c.word-2.ensures)
