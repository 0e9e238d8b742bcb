-- Each test picks its case of `file_answer`.
use mathlib.Core.Path.{refl}
use Rattle.std.proofs.lemmas.Result.{err_from_is_err_and}
use Rattle.block.proofs.Calls.{file_wrong, file_room, own_told}
use Rattle.block.proofs.inner.calls.file_answer.Goals as goal

pub returns-in_err-payload_answer : goal.returns-in_err-payload_answer
returns-in_err-payload_answer c =
    let p = err_from_is_err_and c.from_residual.result c.from_residual.ensures.1 in
    rw (p.1, p.2) (file_wrong _ _ _ _ _ _ _ c.number_of.ensures c.length_of-m.ensures.0 c.in_err-payload_answer.ensures tt)

pub word_of-requires : goal.word_of-requires
word_of-requires c = file_room c.args.kind _ _ _ _ _ _ c.number_of.ensures c.length_of-m.ensures.0 c.in_ok-payload_answer.ensures refl c.length_of-m.ensures.1

pub returns : goal.returns
returns c =
    own_told _ _ _ _ _ _ _ c.number_of.ensures c.length_of-m.ensures.0 c.in_ok-payload_answer.ensures refl _ c.word_of.ensures
    _ c.own_agrees.ensures _ c.sized.ensures
