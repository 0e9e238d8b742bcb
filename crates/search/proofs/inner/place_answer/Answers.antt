-- 1, or what the checker answers.
use mathlib.Core.Path.{ap}
use Rattle.std.proofs.lemmas.Result.{err_from_is_err_and}
use Rattle.tables.specs.Answer.{answer_of}
use Rattle.search.proofs.Places.{place_sized, place_checks}
use Rattle.search.proofs.inner.place_answer.Goals as goal

pub returns-in_err-sized : goal.returns-in_err-sized
returns-in_err-sized c =
    let p = err_from_is_err_and c.from_residual.result c.from_residual.ensures.1 in
    rw (p.1, p.2) (place_sized _ _ c.args.words.now _ _ _ _ c.place_fits.ensures _ c.in_err-sized.ensures tt)

pub returns : goal.returns
returns c = place_checks _ _ _ _ _ _ _ c.place_fits.ensures _ c.sized.ensures _ (ap answer_of c.in_ok-sized.was) c.check.ensures
