-- By the place of a payload word.
use borrow.Author.Rules.{rules}
use Rattle.payload.specs.File.{payload_word}
use Rattle.payload.proofs.inner.place.word_of.Goals as goal

pub returns : goal.returns
unfolding payload_word
returns c = search rules
