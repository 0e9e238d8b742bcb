use Prim.Native.Nat.{ℕ}
use mathlib.Core.Path.{subst}
use native.Mathlib.Omega.{arith}
use borrow.Author.Count.{below_more}
use Rattle.link_table.proofs.Table.{supply_next}
use Rattle.convert_rows.specs.Quick.{FlowsFit}
use Rattle.convert_rows.proofs.Quick.{next_asks, flows_ended}
use Rattle.convert_rows.proofs.inner.step.StepRows.flows_kept.Goals as goal

pub receiving_at-supply-requires : goal.receiving_at-supply-requires
receiving_at-supply-requires c =
    let all = next_asks _ _ _ _ _ c.requires c.loop-i.i (omega arith) in
    record { node_in = all.0; jam_kept = all.1 }

pub loop-i-preserved : goal.loop-i-preserved
loop-i-preserved c =
    let self = c.args.self.now in
    below_more _ _ c.loop-i.invariant
    (subst (λ (x : ℕ). FlowsFit self.row.width self.table.now self.demand.row.now self.row.words.now x c.loop-i.i)
    (supply_next _ _ _ _ _ _ _ _ (omega arith) c.receiving_at-supply.ensures)
    (c.flows_fit.ensures c.if-not-flows_fit.false))

pub returns : goal.returns
returns c e = flows_ended _ _ _ _ _ _ (λ j h. c.loop-i.invariant j (omega arith)) (c.flows_fit-2.ensures e)
