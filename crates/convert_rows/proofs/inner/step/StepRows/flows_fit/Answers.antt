-- The tests of 8, 9 and 10, on the words that are read.
use Rattle.std.proofs.Common.{◌+◌, ◌≤◌, sym, ◌∙◌}
use mathlib.Core.Bool.{true≢false}
use borrow.Author.Tests.{leb-true, lt-leb}
use Rattle.road.specs.declared.Junction as junctions
use Rattle.record_faults.proofs.Records.{permitted_told}
use Rattle.convert_rows.proofs.Quick.{in_table, fit_told}
use Rattle.convert_rows.proofs.inner.step.StepRows.flows_fit.Goals as goal
use Rattle.convert_rows.proofs.inner.step.StepRows.flows_fit.Goals.{then-flows-sent, else-flows-sent, then-through-flows, else-through-flows}

pub link_at-link-requires : goal.link_at-link-requires
link_at-link-requires c = in_table _ _ _ _ c.requires.kept.told c.requires.i_le_links

pub ramp_at-ramp-requires : goal.ramp_at-ramp-requires
ramp_at-ramp-requires c = in_table _ _ _ _ c.requires.kept.told c.requires.i_le_links

pub returns-then-flows-state : goal.returns-then-flows-state
returns-then-flows-state c t =
    let flows = c.flows-flows.result in
    let a : junctions.Junction = record
    { link = c.link_at-link.result; ramp = c.ramp_at-ramp.result; state = c.state-state.result; split = c.split.result; supply = c.args.supply }
    in
    let held : ((flows.main.0 ≤ c.sending-sent.result.0) × (c.through-through.result.0 + flows.ramp.0 ≤ c.args.supply.0)) × (flows.ramp.0 ≤ a.state.queue.0) =
    elim c.if-through-flows.branch [
      | then-through-flows w ↦
          (elim c.if-flows-sent.branch [
            | then-flows-sent v ↦ (
              (v.if-flows-sent.true, leb-true _ _ (sym v.value-is ∙ w.if-through-flows.true)),
              leb-true _ _ (sym w.value-is ∙ c.if-flows-state.true),
            )
            | else-flows-sent v ↦ absurd (true≢false (sym w.if-through-flows.true ∙ v.value-is ∙ lt-leb _ _ v.if-flows-sent.false))
          ])
      | else-through-flows w ↦ absurd (true≢false (sym c.if-flows-state.true ∙ w.value-is ∙ w.if-through-flows.false))
    ] in
    fit_told _ _ c.args.self.now.demand.row.now _ _ a flows c.link_at-link.ensures c.ramp_at-ramp.ensures c.state-state.ensures
    c.flows-flows.ensures c.split.ensures (permitted_told a flows _ _ c.sending-sent.ensures held.0.0
    c.through-through.ensures held.0.1 held.1 (leb-true _ _ t))
