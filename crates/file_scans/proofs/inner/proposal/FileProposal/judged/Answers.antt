-- The first scan that refuses decides.
use Prim.Native.Nat.{ℕ}
use mathlib.Core.Path.{sym, ap, ap₂, ◌∙◌}
use Rattle.std.proofs.lemmas.Result.{err_from_is_err_and}
use Rattle.tables.specs.Answer.{answer_of}
use Rattle.convert.specs.Rows.{cost_refusal}
use Rattle.convert.proofs.Answers.{judged_fixed, judged_steps, judged_cost}
use Rattle.file_rows.specs.Words.{record_in}
use Rattle.file_scans.proofs.inner.proposal.FileProposal.judged.Goals as goal

pub returns-in_err-scan_fixed : goal.returns-in_err-scan_fixed
returns-in_err-scan_fixed c =
    let p = err_from_is_err_and c.from_residual.result c.from_residual.ensures.1 in
    rw (p.1, p.2) (judged_fixed _ _ _ _ _ _ c.args.self.ready.ready _ (ap answer_of (sym c.in_err-scan_fixed.was) ∙ c.scan_fixed.ensures) tt)

pub returns-in_err-total : goal.returns-in_err-total
returns-in_err-total c =
    let p = err_from_is_err_and c.from_residual-in_err-total.result c.from_residual-in_err-total.ensures.1 in
    rw (p.1, p.2)
    (judged_steps _ _ _ _ _ _ c.args.self.ready.ready _ _ c.scan_fixed.ensures (ap answer_of c.in_ok-scan_fixed.was)
    c.in_err-total.ensures.answered tt)

pub returns : goal.returns
returns c =
    let self = c.args.self in
    let width : ℕ = self.record.width in
    judged_cost _ _ _ _ _ _ self.ready.ready _ _ _ c.scan_fixed.ensures (ap answer_of c.in_ok-scan_fixed.was) c.scan_steps.ensures.answered
    (ap answer_of c.in_ok-total.was)
    (c.scan_cost.ensures
    ∙ ap₂ (λ (links steps : ℕ). cost_refusal width links steps (record_in width links steps self.record.bytes.now)) self.same.1 self.same.2)
