-- The length tells the kind, and the kind its length.
use Rattle.lengths.proofs.Sizes.{record_sized_told}
use Rattle.lengths.proofs.inner.record_sized.Goals as goal

pub returns : goal.returns
returns c = record_sized_told _ _ _ _ _ c.record_width-width.ensures.0 c.record_length.ensures
