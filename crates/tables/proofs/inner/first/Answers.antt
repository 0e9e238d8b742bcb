-- The first that refuses is the answer, and where none does there is none.
use mathlib.Core.Path.{refl, sym, ap, ◌∙◌}
use Rattle.std.proofs.Common.{arith}
use Rattle.std.proofs.lemmas.Result.{err_from_is_err_and}
use Rattle.tables.specs.Answer.{answer_of}
use Rattle.tables.specs.First.{first}
use Rattle.tables.proofs.First.{first_stops, first_more}
use Rattle.tables.proofs.inner.first.Goals as goal

pub loop-i-init : goal.loop-i-init
unfolding first
loop-i-init g c told h = refl

pub returns-in_err-answer : goal.returns-in_err-answer
returns-in_err-answer g c told h =
    let p = err_from_is_err_and c.from_residual.result c.from_residual.ensures.1 in
    rw (p.1, p.2)
    (first_stops c.args.n c.loop-i.i told _ (omega arith) (c.loop-i.invariant told h) (ap answer_of (sym c.in_err-answer.was) ∙ h c.loop-i.i _ (omega arith) c.answer.ensures) tt)

pub loop-i-preserved : goal.loop-i-preserved
loop-i-preserved g c told h =
    first_more c.loop-i.i told _ (c.loop-i.invariant told h) (h c.loop-i.i _ (omega arith) c.answer.ensures) (ap answer_of c.in_ok-answer.was)
