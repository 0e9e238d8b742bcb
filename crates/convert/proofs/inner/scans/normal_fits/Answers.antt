-- N and K are small.
use mathlib.Core.Path.{sym, ◌∙◌}
use Rattle.lengths.proofs.Sizes.{demands_fit_lem}
use Rattle.convert.proofs.inner.scans.normal_fits.Goals as goal

pub plan_length-requires : goal.plan_length-requires
plan_length-requires c =
    let fit = demands_fit_lem _ _ _ _ (sym c.sizes.ensures ∙ c.if-sizes.true) c.links_of.ensures c.steps_of.ensures in
    (fit.few, fit.short)
