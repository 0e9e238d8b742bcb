use mathlib.Core.Path.{ap}
use native.Mathlib.Omega.{arith}
use Rattle.std.proofs.lemmas.Result.{err_from_is_err_and}
use Rattle.tables.specs.Answer.{answer_of}
use Rattle.convert_rows.proofs.Steps.{stepping_begun, stepping_more, stepping_stop, passes_on}
use Rattle.convert_rows.proofs.inner.step.Step.nodes.Goals as goal

pub loop-i-init : goal.loop-i-init
loop-i-init c = stepping_begun _ _ _ _ _ _ _ _

pub returns-in_err-answer : goal.returns-in_err-answer
returns-in_err-answer c =
    let p = err_from_is_err_and c.from_residual.result c.from_residual.ensures.1 in
    rw (p.1, p.2)
    (stepping_stop _ _ _ _ _ _ _ _ _ _ _ c.loop-i.invariant (omega (arith, c.nodes-i-end.ensures)) c.in_err-answer.ensures tt)

pub outflow_at-gained-requires-clause-flows_bound : goal.outflow_at-gained-requires-clause-flows_bound
outflow_at-gained-requires-clause-flows_bound c =
    let self = c.args.self.now in
    (passes_on _ _ _ _ _ self.after.words.now _ _ self.k _ self.kept (omega (arith, c.nodes-i-end.ensures)) c.answer.ensures
    (ap answer_of c.in_ok-answer.was)).1

pub loop-i-preserved : goal.loop-i-preserved
loop-i-preserved c =
    stepping_more _ _ _ _ _ _ _ _ _ _ _ _ c.loop-i.invariant (omega (arith, c.nodes-i-end.ensures)) c.answer.ensures
    (ap answer_of c.in_ok-answer.was) c.outflow_at-gained.ensures.0 c.outflow_at-gained.ensures.1
