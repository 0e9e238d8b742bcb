-- N and K decide, then the files and the words in them.
use mathlib.Core.Path.{ap}
use Rattle.std.proofs.lemmas.Result.{err_from_is_err_and}
use Rattle.tables.specs.Answer.{answer_of}
use Rattle.files.proofs.Answers.{check_wrong, check_right}
use Rattle.files.proofs.check_files.Goals as goal

pub returns-in_err-size : goal.returns-in_err-size
returns-in_err-size c =
    let p = err_from_is_err_and c.from_residual.result c.from_residual.ensures.1 in
    rw (p.1, p.2) (check_wrong _ _ _ _ _ _ c.in_err-size.ensures.answered tt)

pub returns : goal.returns
returns c =
    let size = c.in_ok-size.ensures.ok in
    check_right _ _ _ _ _ _ c.told.ensures.answered (ap answer_of c.in_ok-size.was) _ _ size.0 size.1 _ c.read_then_check.ensures
