-- By the lengths as numbers.
use Rattle.lengths.proofs.Sizes.{sizes_are}
use Rattle.lengths.proofs.inner.sizes.Goals as goal

pub returns : goal.returns
returns c = search sizes_are
