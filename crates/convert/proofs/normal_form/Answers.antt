-- What refuses the simulator refuses the normal form; past it, the work record is the plan's, and the converter's answer and plan are the normal form's.
use mathlib.Core.Path.{refl, sym, ap, ◌∙◌}
use Rattle.std.proofs.lemmas.Result.{err_from_is_err_and}
use Rattle.tables.specs.Answer.{answer_of}
use Rattle.tables.proofs.Answers.{left_refused}
use Rattle.convert.specs.Convert.{work_left, normal_left}
use Rattle.convert.proofs.Normal.{normal_unsized, normal_stops, simulator_refuses, work_left_lem, work_is, converter_answers, converter_writes}
use Rattle.convert.proofs.normal_form.Goals as goal

pub returns-in_err-sized : goal.returns-in_err-sized
unfolding work_left normal_left
returns-in_err-sized c =
    let p = err_from_is_err_and c.from_residual.result c.from_residual.ensures.1 in
    let q = normal_unsized _ _ c.args.plan.now _ _ _ _ c.normal_fits.ensures c.in_err-sized.ensures tt in
    let a = normal_stops _ _ _ _ _ _ q tt in
    rw (p.1, p.2) (record { answered = a; worked = left_refused _ _ _ _ q tt; written = left_refused _ _ _ _ a tt })

pub returns-in_err-simulate : goal.returns-in_err-simulate
unfolding normal_left
returns-in_err-simulate c =
    let p = err_from_is_err_and c.from_residual-in_err-simulate.result c.from_residual-in_err-simulate.ensures.1 in
    let f = c.normal_fits.ensures in
    let z = c.sized.ensures in
    let g = ap answer_of c.in_ok-sized.was in
    let a = normal_stops _ _ _ _ _ _ (simulator_refuses _ _ _ _ _ _ f _ z g _ c.in_err-simulate.ensures.answered) tt in
    rw (p.1, p.2)
    (record { answered = a; worked = work_left_lem _ _ _ _ _ _ f _ z g _ _ refl c.simulate.ensures.written; written = left_refused _ _ _ _ a tt })

pub returns : goal.returns
returns c =
    let y = ap answer_of c.in_ok-simulate.was in
    let g = ap answer_of c.in_ok-sized.was in
    let f = c.normal_fits.ensures in
    let z = c.sized.ensures in
    let s = c.simulate.ensures in
    let w = work_is _ _ _ _ _ _ _ s.answered y refl s.written in
    record {
      answered = converter_answers _ _ _ _ _ _ f _ z g (sym s.answered ∙ y) _ w _ c.convert.ensures.answered;
      worked = work_left_lem _ _ _ _ _ _ f _ z g _ _ refl s.written;
      written = converter_writes _ _ _ _ _ _ f _ z g (sym s.answered ∙ y) _ w _ _ refl c.convert.ensures.written;
    }
