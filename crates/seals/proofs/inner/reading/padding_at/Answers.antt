-- By the word that is read.
use Rattle.seals.proofs.Refusals.{padding_told}
use Rattle.seals.proofs.inner.reading.padding_at.Goals as goal

pub returns : goal.returns
returns c = search padding_told
