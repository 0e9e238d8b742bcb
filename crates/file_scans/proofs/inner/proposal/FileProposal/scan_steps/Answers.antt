use mathlib.Core.Path.{sym, ap, ◌∙◌}
use native.Mathlib.Omega.{arith}
use Rattle.std.proofs.lemmas.Result.{err_from_is_err_and}
use Rattle.tables.specs.Answer.{answer_of}
use Rattle.convert.proofs.Answers.{scanning_begun, scanning_more, scanning_stop, scanning_ended}
use Rattle.file_scans.proofs.inner.proposal.FileProposal.scan_steps.Goals as goal

pub loop-k-init : goal.loop-k-init
loop-k-init c = scanning_begun _ _ _ _ _ _

pub returns-in_err-step-clause-answered : goal.returns-in_err-step-clause-answered
returns-in_err-step-clause-answered c =
    let p = err_from_is_err_and c.from_residual.result c.from_residual.ensures.1 in
    rw (p.1, p.2)
    (scanning_stop _ _ _ _ _ _ _ _ c.loop-k.invariant (omega arith) _ (ap answer_of (sym c.in_err-step.was) ∙ c.step_at-step.ensures.found) tt)

pub loop-k-preserved : goal.loop-k-preserved
loop-k-preserved c =
    scanning_more _ _ _ _ _ _ _ _ c.loop-k.invariant (omega arith) _ c.step_at-step.ensures.found _ (ap answer_of c.in_ok-step.was)
    c.step_at-step.ensures.adds

pub returns-clause-ok : goal.returns-clause-ok
returns-clause-ok c = scanning_ended _ _ _ _ _ _ _ _ c.loop-k.invariant (omega arith)
