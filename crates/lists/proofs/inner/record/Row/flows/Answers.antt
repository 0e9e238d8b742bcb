-- By the words that are read.
use Rattle.lists.specs.Rows.{flows_in}
use Rattle.lists.proofs.inner.record.Row.flows.Goals as goal

pub returns : goal.returns
unfolding flows_in
returns c = simp (c.word.ensures, c.word-2.ensures)
