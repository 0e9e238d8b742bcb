-- N and K are small.
use mathlib.Core.Path.{sym, ◌∙◌}
use Rattle.lengths.proofs.Sizes.{demands_fit_lem}
use Rattle.convert.proofs.inner.scans.record_fits.Goals as goal

pub record_sized-requires : goal.record_sized-requires
record_sized-requires c =
    let fit = demands_fit_lem _ _ _ _ (sym c.sizes.ensures ∙ c.if-sizes.true) c.links_of.ensures c.steps_of.ensures in
    (fit.few, fit.short)
