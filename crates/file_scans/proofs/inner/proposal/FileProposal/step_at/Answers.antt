-- The rows that are unpacked are those of the lists, and keep what is asked.
use Prim.Native.Nat.{ℕ, ◌+◌}
use mathlib.Core.Path.{ap, ◌∙◌}
use Rattle.file_rows.specs.Rows.{demand_row_in, downstream_in, state_row_in}
use Rattle.file_scans.proofs.Rows.{step_found, step_keeps, cost_found}
use Rattle.file_scans.proofs.inner.proposal.FileProposal.step_at.Goals as goal

pub step_row-requires-clause-rows_kept : goal.step_row-requires-clause-rows_kept
step_row-requires-clause-rows_kept c =
    let self = c.args.self in
    step_keeps _ _ _ _ _ _ self.ready.ready _ _ _
    (c.row.ensures ∙ ap (λ (links : ℕ). demand_row_in links self.demands.bytes.now c.args.k) self.same.0)
    (c.row-2.ensures ∙ ap (λ (links : ℕ). state_row_in self.record.width links self.record.bytes.now c.args.k) self.same.1)
    c.requires.k_lt_steps.0 c.requires.fixed_accepted c.requires.steps_accepted

pub returns-clause-found : goal.returns-clause-found
returns-clause-found c =
    let self = c.args.self in
    step_found _ _ _ _ _ _ self.ready.ready _ _ _
    (c.row.ensures ∙ ap (λ (links : ℕ). demand_row_in links self.demands.bytes.now c.args.k) self.same.0)
    (c.row-2.ensures ∙ ap (λ (links : ℕ). state_row_in self.record.width links self.record.bytes.now c.args.k) self.same.1)
    c.requires.k_lt_steps.0 _
    (c.downstream-downstream.ensures ∙ ap (λ (links : ℕ). downstream_in links self.demands.steps self.demands.bytes.now c.args.k) self.same.0) _ _
    (c.row-3.ensures ∙ ap (λ (links : ℕ). state_row_in self.record.width links self.record.bytes.now (c.args.k + 1)) self.same.1)
    c.step_row.ensures.found

pub returns-clause-adds : goal.returns-clause-adds
returns-clause-adds c =
    let self = c.args.self in (
      cost_found _ self.record.wide _ _ _ _ _
          (c.row-3.ensures ∙ ap (λ (links : ℕ). state_row_in self.record.width links self.record.bytes.now (c.args.k + 1)) self.same.1)
          c.requires.k_lt_steps.0 _ c.step_row.ensures.adds.0,
      c.step_row.ensures.adds.1,
    )
