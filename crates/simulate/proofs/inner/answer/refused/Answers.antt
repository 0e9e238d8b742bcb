-- The refusals in their order.
use mathlib.Core.Path.{sym, ap, ◌∙◌}
use Rattle.std.proofs.lemmas.Result.{err_from_is_err_and}
use Rattle.tables.specs.Answer.{answer_of}
use Rattle.simulate.proofs.Answers.{answer_lengths, answer_one, answer_ranges, answer_bounds}
use Rattle.simulate.proofs.inner.answer.refused.Goals as goal

pub returns-in_err-sized : goal.returns-in_err-sized
returns-in_err-sized c =
    let p = err_from_is_err_and c.from_residual.result c.from_residual.ensures.1 in
    rw (p.1, p.2) (answer_one _ _ _ _ _ c.fits.ensures _ (ap answer_of (sym c.in_err-sized.was) ∙ c.sized.ensures) tt)

pub ranges-requires : goal.ranges-requires
ranges-requires c = (answer_lengths _ _ _ _ _ c.fits.ensures _ c.sized.ensures (ap answer_of c.in_ok-sized.was)).listed

pub returns-in_err-ranges : goal.returns-in_err-ranges
returns-in_err-ranges c =
    let p = err_from_is_err_and c.from_residual-in_err-ranges.result c.from_residual-in_err-ranges.ensures.1 in
    rw (p.1, p.2)
    (answer_ranges _ _ _ _ _ c.fits.ensures _ c.sized.ensures (ap answer_of c.in_ok-sized.was) _
    (ap answer_of (sym c.in_err-ranges.was) ∙ c.ranges-2.ensures) tt)

pub bounds-requires : goal.bounds-requires
bounds-requires c =
    let l = answer_lengths _ _ _ _ _ c.fits.ensures _ c.sized.ensures (ap answer_of c.in_ok-sized.was) in
    record { sizes_fit = l.listed; plan_len = l.plan_fits }

pub returns : goal.returns
returns c =
    answer_bounds _ _ _ _ _ c.fits.ensures _ c.sized.ensures (ap answer_of c.in_ok-sized.was) _ c.ranges-2.ensures _
    (ap answer_of c.in_ok-ranges.was) c.bounds.ensures
