-- Each test picks its case of `block_answer`.
use mathlib.Core.Path.{refl}
use Rattle.std.proofs.lemmas.Result.{err_from_is_err_and}
use Rattle.seals.proofs.Refusals.{check_wrong, kind_wrong, number_told}
use Rattle.seals.proofs.inner.reading.block_answer.Goals as goal

pub returns-in_err-tested : goal.returns-in_err-tested
returns-in_err-tested c =
    let p = err_from_is_err_and c.from_residual.result c.from_residual.ensures.1 in
    rw (p.1, p.2) (check_wrong _ _ _ _ _ c.word_at-check.ensures c.check_word-right.ensures _ c.in_err-tested.ensures tt)

pub returns-in_err-tested-2 : goal.returns-in_err-tested-2
returns-in_err-tested-2 c =
    let p = err_from_is_err_and c.from_residual-in_err-tested-2.result c.from_residual-in_err-tested-2.ensures.1 in
    rw (p.1, p.2)
    (kind_wrong _ _ _ _ _ c.word_at-check.ensures c.check_word-right.ensures _ c.in_ok-tested.ensures refl
    _ c.word_at-named.ensures _ c.in_err-tested-2.ensures tt)

pub returns : goal.returns
returns c =
    number_told _ _ _ _ _ c.word_at-check.ensures c.check_word-right.ensures _ c.in_ok-tested.ensures refl
    _ c.word_at-named.ensures _ c.in_ok-tested-2.ensures refl _ c.word_at-number.ensures _ c.tested-3.ensures
