-- The test that accepts says so.
use mathlib.Core.Path.{refl}
use Rattle.block.proofs.Calls.{told_sized}
use Rattle.block.proofs.inner.size.told.Goals as goal

pub invariant_of-result : goal.invariant_of-result
invariant_of-result c = record { told = told_sized _ _ _ _ c.told_fits.ensures c.in_ok-sized.ensures refl }
