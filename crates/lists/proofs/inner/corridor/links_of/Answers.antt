-- The word that opens the list.
use borrow.Author.Rules.{rules}
use Rattle.lists.specs.Words.{links_of}
use Rattle.lists.proofs.inner.corridor.links_of.Goals as goal

pub returns : goal.returns
unfolding links_of
returns c = search rules
