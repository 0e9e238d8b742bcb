-- The width tells whether the row has the word.
use borrow.Author.Tests.{lt-ltb, le-ltb}
use Rattle.simulate_rows.specs.Rows.{put_exit}
use Rattle.simulate_rows.proofs.inner.put_exit.Goals as goal

pub returns-then-width-gt4 : goal.returns-then-width-gt4
unfolding put_exit
returns-then-width-gt4 c = simp (lt-ltb _ _ c.if-width-gt4.true)

pub returns-else-width-gt4 : goal.returns-else-width-gt4
unfolding put_exit
returns-else-width-gt4 c = simp (le-ltb _ _ c.if-width-gt4.false)
