-- The test of all sizes gives the words that N and K tell.
use Rattle.lengths.proofs.Sizes.{demands_fit_lem}
use Rattle.lengths.proofs.inner.sized_demands.Goals as goal

pub invariant_of-result : goal.invariant_of-result
invariant_of-result c = record { fits = demands_fit_lem _ _ _ _ c.requires c.links_of.ensures c.steps_of.ensures }
