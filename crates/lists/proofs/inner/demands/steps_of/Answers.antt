-- The word that opens the list.
use borrow.Author.Rules.{rules}
use Rattle.lists.specs.Words.{steps_of}
use Rattle.lists.proofs.inner.demands.steps_of.Goals as goal

pub returns : goal.returns
unfolding steps_of
returns c = search rules
