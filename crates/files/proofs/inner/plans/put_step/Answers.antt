-- The rows that are unpacked are those of the lists, and keep what is asked.
use Prim.Native.Nat.{ℕ}
use mathlib.Core.Path.{ap, ◌∙◌}
use Rattle.file_rows.specs.Rows.{demand_row_in, state_row_in}
use Rattle.file_scans.proofs.Rows.{plan_keeps, plan_sends}
use Rattle.files.proofs.inner.plans.put_step.Goals as goal

pub plan_row-requires-clause-rows_kept : goal.plan_row-requires-clause-rows_kept
plan_row-requires-clause-rows_kept c =
    let proposal = c.args.proposal in
    let width : ℕ = proposal.record.width in
    let d = c.row.ensures ∙ ap (λ (links : ℕ). demand_row_in links proposal.demands.bytes.now c.args.k) proposal.same.0 in
    let t = c.row-2.ensures ∙ ap (λ (links : ℕ). state_row_in width links proposal.record.bytes.now c.args.k) proposal.same.1 in (
      plan_keeps _ _ _ _ _ _ proposal.ready.ready _ _ _ d t c.requires.k_lt_steps.0 c.requires.judges,
      plan_sends _ _ _ _ _ _ proposal.ready.ready _ _ _ d t c.requires.k_lt_steps.0 c.requires.judges,
    )
