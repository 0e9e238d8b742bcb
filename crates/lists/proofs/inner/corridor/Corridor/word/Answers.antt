-- The words of node i begin where the kind tells.
use Rattle.lists.proofs.Corridors.{word_read}
use Rattle.lists.proofs.inner.corridor.Corridor.word.Goals as goal

pub returns : goal.returns
returns c = search word_read
