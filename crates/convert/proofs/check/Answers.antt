-- Wrong lengths, or what the lists hold.
use mathlib.Core.Path.{ap}
use Rattle.std.proofs.lemmas.Result.{err_from_is_err_and}
use Rattle.tables.specs.Answer.{answer_of}
use Rattle.convert.proofs.Answers.{check_asks, check_sized, check_rest}
use Rattle.convert.proofs.check.Goals as goal

pub returns-in_err-sized : goal.returns-in_err-sized
returns-in_err-sized c =
    let p = err_from_is_err_and c.from_residual.result c.from_residual.ensures.1 in
    rw (p.1, p.2) (check_sized _ _ c.args.words.now _ c.record_fits.ensures _ c.in_err-sized.ensures tt)

pub contents-requires-clause-words_len : goal.contents-requires-clause-words_len
contents-requires-clause-words_len c = check_asks _ _ c.args.words.now _ c.record_fits.ensures _ c.sized.ensures (ap answer_of c.in_ok-sized.was)

pub returns : goal.returns
returns c = check_rest _ _ c.args.words.now _ c.record_fits.ensures _ c.sized.ensures _ (ap answer_of c.in_ok-sized.was) c.contents.ensures
