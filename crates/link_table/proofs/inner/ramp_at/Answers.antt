-- By the words that are read.
use Rattle.link_table.specs.Table.{ramp_in}
use Rattle.link_table.proofs.inner.ramp_at.Goals as goal

pub returns : goal.returns
unfolding ramp_in
returns c = simp (c.word.ensures, c.word-2.ensures)
