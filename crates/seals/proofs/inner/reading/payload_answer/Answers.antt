-- Each test picks its case of `payload_answer`.
use mathlib.Core.Path.{refl}
use Rattle.std.proofs.lemmas.Result.{err_from_is_err_and}
use Rattle.seals.proofs.Refusals.{length_wrong, blocks_wrong, blocks_sound}
use Rattle.seals.proofs.inner.reading.payload_answer.Goals as goal

pub returns-in_err-tested : goal.returns-in_err-tested
returns-in_err-tested c =
    let p = err_from_is_err_and c.from_residual.result c.from_residual.ensures.1 in
    rw (p.1, p.2) (length_wrong _ _ _ _ c.blocks_for-blocks.ensures _ c.in_err-tested.ensures tt)

pub returns-in_err-blocks_answer : goal.returns-in_err-blocks_answer
returns-in_err-blocks_answer c =
    let p = err_from_is_err_and c.from_residual-in_err-blocks_answer.result c.from_residual-in_err-blocks_answer.ensures.1 in
    rw (p.1, p.2) (blocks_wrong _ _ _ _ c.blocks_for-blocks.ensures _ c.in_ok-tested.ensures refl _ c.in_err-blocks_answer.ensures tt)

pub returns : goal.returns
returns c = blocks_sound _ _ _ _ c.blocks_for-blocks.ensures _ c.in_ok-tested.ensures refl _ c.in_ok-blocks_answer.ensures refl _ c.padding_answer.ensures
