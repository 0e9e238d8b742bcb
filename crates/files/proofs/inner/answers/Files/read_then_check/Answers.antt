-- The files decide, then the words in them.
use mathlib.Core.Path.{ap}
use Rattle.std.proofs.lemmas.Result.{err_from_is_err_and}
use Rattle.tables.specs.Answer.{answer_of}
use Rattle.files.proofs.Answers.{files_fit, read_stop, read_next}
use Rattle.files.proofs.inner.answers.Files.read_then_check.Goals as goal

pub returns-in_err-answer : goal.returns-in_err-answer
returns-in_err-answer c =
    let p = err_from_is_err_and c.from_residual.result c.from_residual.ensures.1 in
    rw (p.1, p.2) (read_stop _ _ _ _ _ _ c.in_err-answer.ensures tt)

pub invariant_of-read : goal.invariant_of-read
invariant_of-read c =
    let self = c.args.self in
    record { fit = files_fit _ _ self.corridor.now self.demands.now self.recorded.now _ c.args.size.told c.answer.ensures (ap answer_of c.in_ok-answer.was) }

pub returns : goal.returns
returns c = read_next _ _ _ _ _ _ c.answer.ensures (ap answer_of c.in_ok-answer.was) c.args.size.told _ c.contents.ensures
