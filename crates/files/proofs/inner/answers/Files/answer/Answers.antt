-- The first file that is refused decides.
use mathlib.Core.Path.{ap}
use Rattle.std.proofs.lemmas.Result.{err_from_is_err_and}
use Rattle.tables.specs.Answer.{answer_of}
use Rattle.files.proofs.Answers.{files_first, files_second, files_third}
use Rattle.files.proofs.inner.answers.Files.answer.Goals as goal

pub returns-in_err-file_answer : goal.returns-in_err-file_answer
returns-in_err-file_answer c =
    let p = err_from_is_err_and c.from_residual.result c.from_residual.ensures.1 in
    rw (p.1, p.2) (files_first _ _ _ _ _ _ c.file_kind-corridor.ensures _ c.in_err-file_answer.ensures tt)

pub returns-in_err-file_answer-2 : goal.returns-in_err-file_answer-2
returns-in_err-file_answer-2 c =
    let p = err_from_is_err_and c.from_residual-in_err-file_answer-2.result c.from_residual-in_err-file_answer-2.ensures.1 in
    rw (p.1, p.2)
    (files_second _ _ _ _ _ _ c.file_kind-corridor.ensures _ c.file_answer.ensures (ap answer_of c.in_ok-file_answer.was) _
    c.file_kind-demands.ensures _ c.in_err-file_answer-2.ensures tt)

pub returns : goal.returns
returns c =
    files_third _ _ _ _ _ _ c.file_kind-corridor.ensures _ c.file_answer.ensures (ap answer_of c.in_ok-file_answer.was) _ c.file_kind-demands.ensures _
    c.file_answer-2.ensures (ap answer_of c.in_ok-file_answer-2.was) _ c.file_kind-recorded.ensures _ c.file_answer-3.ensures
