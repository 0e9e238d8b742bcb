-- The first scan that refuses decides.
use Prim.Native.Nat.{ℕ}
use mathlib.Core.Path.{sym, ap, ◌∙◌}
use Rattle.std.proofs.lemmas.Result.{err_from_is_err_and}
use Rattle.tables.specs.Answer.{answer_of}
use Rattle.convert.specs.Rows.{fixed_refusal}
use Rattle.convert.proofs.Answers.{judged_fixed, judged_steps, judged_cost}
use Rattle.convert.proofs.inner.proposal.Proposal.judged.Goals as goal

pub returns-in_err-scan_fixed : goal.returns-in_err-scan_fixed
returns-in_err-scan_fixed c =
    let self = c.args.self in
    let p = err_from_is_err_and c.from_residual.result c.from_residual.ensures.1 in
    rw (p.1, p.2)
    (judged_fixed _ _ _ _ _ _ self.ready _
    (ap answer_of (sym c.in_err-scan_fixed.was)
    ∙ c.scan_fixed.ensures
    ∙ ap (λ (s : ℕ). fixed_refusal self.record.width self.corridor.words.now self.corridor.links s self.record.words.now) self.same.2) tt)

pub returns-in_err-total : goal.returns-in_err-total
returns-in_err-total c =
    let self = c.args.self in
    let p = err_from_is_err_and c.from_residual-in_err-total.result c.from_residual-in_err-total.ensures.1 in
    rw (p.1, p.2)
    (judged_steps _ _ _ _ _ _ self.ready _ _
    (c.scan_fixed.ensures
    ∙ ap (λ (s : ℕ). fixed_refusal self.record.width self.corridor.words.now self.corridor.links s self.record.words.now) self.same.2)
    (ap answer_of c.in_ok-scan_fixed.was) c.in_err-total.ensures.answered tt)

pub returns : goal.returns
returns c =
    let self = c.args.self in
    let ready = self.ready in
    judged_cost _ _ _ _ _ _ ready _ _ _
    (c.scan_fixed.ensures
    ∙ ap (λ (s : ℕ). fixed_refusal self.record.width self.corridor.words.now self.corridor.links s self.record.words.now) self.same.2)
    (ap answer_of c.in_ok-scan_fixed.was) c.scan_steps.ensures.answered
    (ap answer_of c.in_ok-total.was) (c.scan_cost.ensures _ _ _ (record { fits = ready.record_fits; is = c.in_ok-total.ensures.ok }))
