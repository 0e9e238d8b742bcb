-- Each test picks its case of `read_answer`.
use mathlib.Core.Path.{refl}
use Rattle.std.proofs.lemmas.Result.{err_from_is_err_and}
use Rattle.block.proofs.Calls.{read_told_wrong, read_room_wrong, read_file}
use Rattle.block.proofs.inner.calls.read_answer.Goals as goal

pub returns-in_err-told : goal.returns-in_err-told
returns-in_err-told c =
    let p = err_from_is_err_and c.from_residual.result c.from_residual.ensures.1 in
    rw (p.1, p.2) (read_told_wrong _ _ _ _ _ _ c.in_err-told.ensures.answered tt)

pub returns-in_err-sized : goal.returns-in_err-sized
returns-in_err-sized c =
    let p = err_from_is_err_and c.from_residual-in_err-sized.result c.from_residual-in_err-sized.ensures.1 in
    let e = c.in_ok-told.ensures.ok in
    rw (p.1, p.2, ← e.0, ← e.1) (read_room_wrong _ _ _ _ _ c.in_ok-told.told.told _ c.length_of.ensures.0 _ c.in_err-sized.ensures tt)

pub returns : goal.returns
returns c =
    let e = c.in_ok-told.ensures.ok in
    rw (← e.0, ← e.1) (read_file _ _ _ _ _ c.in_ok-told.told.told _ c.length_of.ensures.0 _ c.in_ok-sized.ensures refl _ c.file_answer.ensures)
