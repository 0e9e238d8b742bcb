-- By the words that are read.
use Rattle.lists.specs.Rows.{state_in}
use Rattle.simulate_rows.proofs.inner.state_at.Goals as goal

pub returns : goal.returns
unfolding state_in
returns c = simp (c.word.ensures, c.word-2.ensures)
