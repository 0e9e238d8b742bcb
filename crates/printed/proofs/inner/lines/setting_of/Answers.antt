-- The rows that are unpacked are those of the lists, and keep what is asked.
use mathlib.Core.Path.{ap, ◌∙◌}
use Prim.Native.Nat.{ℕ}
use Rattle.file_rows.specs.Rows.{demand_row_in, downstream_in, state_row_in}
use Rattle.file_scans.proofs.Rows.{plan_keeps, plan_sends, setting_found}
use Rattle.printed.proofs.inner.lines.setting_of.Goals as goal

pub setting_at-requires-clause-rows_kept : goal.setting_at-requires-clause-rows_kept
setting_at-requires-clause-rows_kept c =
    let files = c.args.proposal in
    let d = c.row.ensures ∙ ap (λ (n : ℕ). demand_row_in n files.demands.bytes.now c.args.k) files.same.0 in
    let t = c.row-2.ensures ∙ ap (λ (n : ℕ). state_row_in files.record.width n files.record.bytes.now c.args.k) files.same.1 in (
      plan_keeps _ _ _ _ _ _ files.ready.ready _ _ _ d t c.requires.k_lt_steps.0 c.requires.judges,
      plan_sends _ _ _ _ _ _ files.ready.ready _ _ _ d t c.requires.k_lt_steps.0 c.requires.judges,
    )

pub returns : goal.returns
returns c =
    let files = c.args.proposal in
    let d = c.row.ensures ∙ ap (λ (n : ℕ). demand_row_in n files.demands.bytes.now c.args.k) files.same.0 in
    let t = c.row-2.ensures ∙ ap (λ (n : ℕ). state_row_in files.record.width n files.record.bytes.now c.args.k) files.same.1 in
    let f = c.downstream-downstream.ensures ∙ ap (λ (n : ℕ). downstream_in n files.demands.steps files.demands.bytes.now c.args.k) files.same.0 in
    c.setting_at.ensures ∙ setting_found _ _ _ _ _ _ files.ready.ready _ _ _ d t c.requires.k_lt_steps.0 _ f _ c.requires.k_lt_steps.1
