-- The rows of step k say what the lists say of it, and keep what is asked.
use Prim.Native.Nat.{ℕ}
use mathlib.Core.Path.{ap, ◌∙◌}
use native.Mathlib.Omega.{arith}
use Rattle.lists.specs.Words.{downstream_word}
use Rattle.convert.proofs.Answers.{row_cost_told}
use Rattle.convert.proofs.Rows.{demand_viewed, record_viewed, after_viewed, step_row_told, step_row_kept}
use Rattle.convert.proofs.inner.proposal.Proposal.step_at.Goals as goal

pub step_row-requires-clause-rows_kept : goal.step_row-requires-clause-rows_kept
step_row-requires-clause-rows_kept c =
    let ready = c.args.self.ready in
    let same = c.args.self.same in
    let hk = c.requires.k_lt_steps.0 in
    step_row_kept _ _ _ _ _ _ ready _ _ _ (demand_viewed _ _ _ _ _ _ ready _ _ _ same.0 hk c.step.ensures.row)
    (record_viewed _ _ _ _ _ _ ready c.args.k _ _ _ same.1 (omega arith) c.row-before.ensures.row) hk _ c.row-before.ensures.width c.requires.fixed_accepted
    c.requires.steps_accepted

pub step_row-requires-clause-row_fits : goal.step_row-requires-clause-row_fits
step_row-requires-clause-row_fits c =
    let ready = c.args.self.ready in
    let same = c.args.self.same in
    let hk = c.requires.k_lt_steps.0 in
    rw c.row-before.ensures.width
    ((after_viewed _ _ _ _ _ _ ready _ _ _ same.1 hk c.row-after.ensures.row).1, omega (arith, ready.demands_fit.short), c.requires.k_lt_steps.1)

pub returns-clause-found : goal.returns-clause-found
returns-clause-found c =
    let ready = c.args.self.ready in
    let same = c.args.self.same in
    let hk = c.requires.k_lt_steps.0 in
    step_row_told _ _ _ _ _ _ ready _ _ _ (demand_viewed _ _ _ _ _ _ ready _ _ _ same.0 hk c.step.ensures.row)
    (record_viewed _ _ _ _ _ _ ready c.args.k _ _ _ same.1 (omega arith) c.row-before.ensures.row) hk _ _ _ _ c.row-before.ensures.width
    (c.step.ensures.downstream ∙ ap (λ (l : ℕ). downstream_word c.args.self.demands.words.now l c.args.self.demands.steps c.args.k) same.0)
    (after_viewed _ _ _ _ _ _ ready _ _ _ same.1 hk c.row-after.ensures.row) c.step_row.ensures.found

pub returns-clause-adds : goal.returns-clause-adds
returns-clause-adds c =
    let self = c.args.self in (
      row_cost_told _ _ _ _ _ _ _ _ _ self.ready.wide c.row-before.ensures.width self.same.1 c.row-after.ensures.row c.step_row.ensures.adds.0,
      c.step_row.ensures.adds.1,
    )
