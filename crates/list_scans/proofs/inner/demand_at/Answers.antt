-- The row of step k is the list's.
use mathlib.Core.List.{List, []}
use mathlib.Core.Path.{refl, ap, ◌∙◌}
use Prim.Native.Nat.{ℕ, suc}
use native.Mathlib.Omega.{arith}
use Rattle.tables.specs.First.{first_node}
use Rattle.list_scans.specs.Scans.{Demand, node_fault_in}
use Rattle.list_scans.proofs.Scans.{row_told, demand_lent}
use Rattle.list_scans.proofs.inner.demand_at.Goals as goal

pub demand_row-requires : goal.demand_row-requires
demand_row-requires c = record {
  small = (omega (arith, c.args.demands.fits.short), c.args.demands.fits.few, demand_lent _ _ _ _ _ c.args.demands.fits c.requires.k_lt_steps c.step.ensures.row);
  bounds = c.requires.bounds;
}

pub returns : goal.returns
returns c =
    row_told Demand [] c.args.demands.words.now c.args.demands.links c.args.demands.steps 1 c.args.k _ _ c.step.result.downstream.0 _ refl refl c.step.ensures.downstream
    (c.demand_row.ensures
    ∙ ap (λ (row : List ℕ). first_node (suc c.args.demands.links) c.args.k (node_fault_in Demand [] c.args.demands.links row c.step.result.downstream.0)) c.step.ensures.row)
