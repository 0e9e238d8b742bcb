-- The test of all sizes gives the words that N and the kind tell.
use Rattle.lengths.proofs.Sizes.{corridor_fits_lem}
use Rattle.lengths.proofs.inner.sized_corridor.Goals as goal

pub invariant_of-result : goal.invariant_of-result
invariant_of-result c = record { fits = corridor_fits_lem _ _ _ c.requires c.links_of.ensures }
