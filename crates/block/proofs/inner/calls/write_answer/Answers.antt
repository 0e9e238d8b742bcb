-- Each test picks its case of `write_answer`.
use mathlib.Core.Path.{refl}
use Rattle.std.proofs.lemmas.Result.{err_from_is_err_and}
use Rattle.block.proofs.Calls.{write_told_wrong, write_room_wrong, write_told}
use Rattle.block.proofs.inner.calls.write_answer.Goals as goal

pub returns-in_err-told : goal.returns-in_err-told
returns-in_err-told c =
    let p = err_from_is_err_and c.from_residual.result c.from_residual.ensures.1 in
    rw (p.1, p.2) (write_told_wrong _ _ _ _ _ _ c.in_err-told.ensures.answered tt)

pub returns-in_err-sized : goal.returns-in_err-sized
returns-in_err-sized c =
    let p = err_from_is_err_and c.from_residual-in_err-sized.result c.from_residual-in_err-sized.ensures.1 in
    let e = c.in_ok-told.ensures.ok in
    rw (p.1, p.2, ← e.0, ← e.1) (write_room_wrong _ _ _ _ _ c.in_ok-told.told.told _ c.length_of-m.ensures.0 _ c.blocks_for.ensures _ c.in_err-sized.ensures tt)

pub returns : goal.returns
returns c =
    let e = c.in_ok-told.ensures.ok in
    rw (← e.0, ← e.1) (write_told _ _ _ _ _ c.in_ok-told.told.told _ c.length_of-m.ensures.0 _ c.blocks_for.ensures _ c.in_ok-sized.ensures refl
    _ c.list_fits.ensures _ c.sized-2.ensures)
