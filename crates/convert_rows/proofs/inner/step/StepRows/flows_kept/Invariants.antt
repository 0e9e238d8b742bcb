-- No node before i has a fault.
use Prim.Native.Nat.{ℕ, ◌<◌}
use Rattle.road.specs.Run.{supply}
use Rattle.lists.specs.Rows.{state_in}
use Rattle.link_table.specs.Table.{table_road}
use Rattle.convert_rows.specs.Quick.{FlowsFit}
use Rattle.convert_rows.proofs.inner.step.StepRows.flows_kept.Given as goal

abbrev pub invariant-loop-i : goal.invariant-loop-i
invariant-loop-i l =
    (j : ℕ) → j < l.i
    → FlowsFit l.self.row.width l.self.table.now l.self.demand.row.now l.self.row.words.now
    (supply (table_road l.self.table.now l.self.links l.self.demand.row.now l.self.demand.downstream.0) 0
    (state_in l.self.row.width l.self.row.words.now) j) j
