-- The width tells whether the row has the word.
use borrow.Author.Tests.{lt-ltb, le-ltb}
use Rattle.lists.specs.Words.{exit_said}
use Rattle.lists.proofs.inner.record.Row.exit.Goals as goal

pub returns-then-self-gt4 : goal.returns-then-self-gt4
unfolding exit_said
returns-then-self-gt4 c = simp (lt-ltb _ _ c.if-self-gt4.true, c.word.ensures)

pub returns : goal.returns
unfolding exit_said
returns c = simp (le-ltb _ _ c.if-self-gt4.false)
