-- With a bad N or K each kind is refused alike; with good ones the list has a kind, and the writer of that kind answers.
use Rattle.std.proofs.lemmas.Result.{err_from_is_err_and}
use Rattle.block.proofs.Calls.{write_told_wrong, write_told_left}
use Rattle.block.proofs.inner.calls.write_chosen.Goals as goal

pub returns-in_err-told-clause-answered : goal.returns-in_err-told-clause-answered
returns-in_err-told-clause-answered c =
    let p = err_from_is_err_and c.from_residual.result c.from_residual.ensures.1 in
    rw (p.1, p.2) (write_told_wrong _ _ _ _ _ _ c.in_err-told.ensures.answered tt)

pub returns-in_err-told-clause-lent : goal.returns-in_err-told-clause-lent
returns-in_err-told-clause-lent c = write_told_left _ _ _ _ _ _ c.in_err-told.ensures.answered tt
