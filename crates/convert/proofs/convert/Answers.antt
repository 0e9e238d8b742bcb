-- Wrong lengths, or what the lists hold, or the plan.
use mathlib.Core.Path.{sym, ap, ◌∙◌}
use Rattle.std.proofs.lemmas.Result.{err_from_is_err_and}
use Rattle.tables.specs.Answer.{answer_of}
use Rattle.tables.proofs.Answers.{left_refused, left_accepted}
use Rattle.convert.specs.Convert.{converted_by, plan_left}
use Rattle.convert.proofs.Answers.{convert_sized, convert_checks, plan_asks}
use Rattle.convert.proofs.convert.Goals as goal

pub returns-in_err-sized : goal.returns-in_err-sized
unfolding plan_left
returns-in_err-sized c =
    let p = err_from_is_err_and c.from_residual.result c.from_residual.ensures.1 in
    let e = convert_sized _ _ c.args.words.now _ _ c.normal_fits.ensures _ c.in_err-sized.ensures tt in
    rw (p.1, p.2) (record { answered = e; written = left_refused _ _ _ _ e tt })

pub returns-in_err-check : goal.returns-in_err-check
unfolding plan_left
returns-in_err-check c =
    let p = err_from_is_err_and c.from_residual-in_err-check.result c.from_residual-in_err-check.ensures.1 in
    let e = convert_checks _ _ _ _ _ c.normal_fits.ensures _ c.sized.ensures _ (ap answer_of c.in_ok-sized.was) c.in_err-check.ensures in
    rw (p.1, p.2) (record { answered = e; written = left_refused _ _ _ _ e tt })

pub proposed-requires : goal.proposed-requires
proposed-requires c =
    (plan_asks _ _ _ _ _ c.normal_fits.ensures _ c.sized.ensures _ (ap answer_of c.in_ok-sized.was) c.check.ensures (ap answer_of c.in_ok-check.was)).0

pub write_plan-requires-clause-accepted : goal.write_plan-requires-clause-accepted
write_plan-requires-clause-accepted c =
    let is = c.proposed.ensures in
    rw (is.told.2, is.lent.0, is.lent.1, is.lent.2)
    (plan_asks _ _ _ _ _ c.normal_fits.ensures _ c.sized.ensures _ (ap answer_of c.in_ok-sized.was) c.check.ensures (ap answer_of c.in_ok-check.was)).1

pub returns : goal.returns
unfolding plan_left
returns c =
    let g = ap answer_of c.in_ok-sized.was in
    let z = ap answer_of c.in_ok-check.was in
    let e = convert_checks _ _ _ _ _ c.normal_fits.ensures _ c.sized.ensures _ g c.check.ensures in
    let is = c.proposed.ensures in
    record {
      answered = sym z ∙ e;
      written = left_accepted _ _ _ _ _ e z (c.write_plan.ensures ∙ (λ x. converted_by (is.told.2 x) (is.lent.0 x) (is.lent.1 x) (is.lent.2 x)));
    }
