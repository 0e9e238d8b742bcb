-- What the quick test of a step asks of its rows and of the table of links and ramps, and what it finds in them where it holds.
use Rattle.std.specs.Prelude.{ℕ, ◌+◌, ◌*◌, ◌≤◌, true, List, [], ◌≡◌, get_or}
use Rattle.road.specs.Step.{exit, moved}
use Rattle.road.specs.Run.{supply, inflow}
use Rattle.settings.specs.Share.{Permitted}
use Rattle.record_faults.specs.Records.{exit_kept}
use Rattle.lists.specs.Rows.{state_in, flows_in, exit_in, step_road}
use Rattle.link_table.specs.Table.{ramp_in, table_of, table_road, junction_in}
use Rattle.simulate_rows.specs.Rows.{row_cost}
use Rattle.convert_rows.specs.Rows.{RowsKept}

-- ---- what is asked

-- of a step's rows, where the corridor's table stands for the corridor
pub record TableKept (width : ℕ) (table demand row : List ℕ) (links : ℕ) : Type 0 where
  pub corridor : List ℕ
  pub told : table ≡ table_of corridor links
  pub rows : RowsKept width corridor demand row links

-- no more leaves a ramp than waits there
abbrev pub OfferedKept : ℕ → List ℕ → ℕ → Type 0
OfferedKept width row links = (i : ℕ) → i ≤ links → (flows_in width row i).ramp ≤ (state_in width row i).queue

-- of node i by rules 2 and 6, where its link gains `gained`
pub record NodeHeld (width : ℕ) (demand row : List ℕ) (gained i : ℕ) : Type 0 where
  pub main : (flows_in width row i).main ≤ (state_in width row i).vehicles
  pub ramp : (flows_in width row i).ramp ≤ (state_in width row i).queue
  pub vehicles : (state_in width row i).vehicles + gained ≤ 4294967295
  pub queue : (state_in width row i).queue + get_or demand (i * 2 + 0) 0 ≤ 4294967295
  pub split : get_or demand (i * 2 + 1) 0 ≤ 65536

-- ---- what is found

-- 8, 9 and 10 are not due at node i, where S is `supply`
abbrev pub FlowsFit : ℕ → List ℕ → List ℕ → List ℕ → ℕ → ℕ → Type 0
FlowsFit width table demand row supply i = Permitted (junction_in width table demand row supply i) (flows_in width row i)

-- nor at any node
abbrev pub FlowsKept : ℕ → List ℕ → List ℕ → ℕ → List ℕ → ℕ → Type 0
FlowsKept width table demand downstream row links =
    (i : ℕ) → i ≤ links → FlowsFit width table demand row (supply (table_road table links demand downstream) 0 (state_in width row) i) i

-- what link i gains: the corridor has no part in it
abbrev pub gains_in : ℕ → List ℕ → List ℕ → ℕ → ℕ
gains_in width demand row = inflow (step_road [] demand 0) 0 (flows_in width row)

-- 11 and 12 are not due at node i, whose link gains `gained`
pub record NodeMoves (width : ℕ) (table demand row after : List ℕ) (gained i : ℕ) : Type 0 where
  pub exits : exit_kept (exit_in width row i) (exit (flows_in width row i).main (get_or demand (i * 2 + 1) 0)) ≡ true
  pub moves : state_in width after i ≡ moved (state_in width row i) gained (get_or demand (i * 2 + 0) 0) (flows_in width row i)
  pub queue : (state_in width after i).queue ≤ (ramp_in table i).queue_limit

-- nor at any node, and the vehicles and queues of the state after the step are `cost`
pub record MovesKept (width : ℕ) (table demand row after : List ℕ) (links cost : ℕ) : Type 0 where
  pub each : (i : ℕ) → i ≤ links → NodeMoves width table demand row after (gains_in width demand row i) i
  pub adds : cost ≡ row_cost width links after
  pub low : cost ≤ 558345748350
