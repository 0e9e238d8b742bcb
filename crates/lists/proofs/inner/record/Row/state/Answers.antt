-- By the words that are read.
use Rattle.lists.specs.Rows.{state_in}
use Rattle.lists.proofs.inner.record.Row.state.Goals as goal

pub returns : goal.returns
unfolding state_in
returns c = simp (c.word.ensures, c.word-2.ensures)
