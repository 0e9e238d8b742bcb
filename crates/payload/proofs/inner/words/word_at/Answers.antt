-- Its four bytes, joined.
use borrow.Author.Rules.{rules}
use Rattle.payload.specs.Word.{word_at}
use Rattle.payload.proofs.inner.words.word_at.Goals as goal

pub returns : goal.returns
unfolding word_at
returns c = search rules
