-- By the words that are read.
use Rattle.simulate_rows.specs.Rows.{passed_in}
use Rattle.simulate_rows.proofs.inner.flows_at.Goals as goal

pub returns : goal.returns
unfolding passed_in
returns c = simp (c.word.ensures, c.word-2.ensures)
