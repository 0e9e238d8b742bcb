-- One test.
use Rattle.tables.proofs.Sets.{all}
use Rattle.block.specs.Kinds.{kind_word}
use Rattle.block.proofs.inner.kinds.kind_word.Goals as goal

pub word_at-requires : goal.word_at-requires
unfolding kind_word
word_at-requires c = search all

pub returns-then-file-ge4 : goal.returns-then-file-ge4
unfolding kind_word
returns-then-file-ge4 c = search all

pub returns : goal.returns
unfolding kind_word
returns c = search all
