-- Node 0, and then node N.
use mathlib.Core.Path.{sym, ap, ◌∙◌}
use Rattle.std.proofs.lemmas.Result.{err_from_is_err_and}
use Rattle.tables.specs.Answer.{answer_of}
use Rattle.convert_rows.proofs.Ends.{ends_stop, ends_ended}
use Rattle.convert_rows.proofs.inner.rows.fixed_ends.Goals as goal

pub returns-in_err-fixed_answer : goal.returns-in_err-fixed_answer
returns-in_err-fixed_answer c =
    let p = err_from_is_err_and c.from_residual.result c.from_residual.ensures.1 in
    rw (p.1, p.2)
    (ends_stop _ _ _ _ _ _ c.requires.k_nonzero.0 c.requires.k_nonzero.1 _ (ap answer_of (sym c.in_err-fixed_answer.was) ∙ c.fixed_answer.ensures) tt)

pub returns : goal.returns
returns c =
    ends_ended _ _ _ _ _ _ c.requires.k_nonzero.0 c.requires.k_nonzero.1 _ c.fixed_answer.ensures _ (ap answer_of c.in_ok-fixed_answer.was)
    c.fixed_answer-2.ensures
