-- One step on its rows alone: the flows from a state, the record's row, the next state, and what each asks of the words that it is given. A state
-- has two words a node, n and l, and so have flows, f and r: neither depends on the record's kind.
use Rattle.std.specs.Prelude.{ℕ, zero, suc, ◌+◌, ◌*◌, ◌≤◌, cond, ◌≡◌, List, [], ltb, get_or, set}
use Rattle.tables.specs.Grid.{row_words}
use Rattle.road.specs.Corridor.{NodeState, Flows}
use Rattle.road.specs.Step.{exit, flows_with, outflow, moved}
use Rattle.road.specs.Run.{junction, next, no_flow, state_cost}
use Rattle.lists.specs.Words.{node_at, node_word}
use Rattle.lists.specs.Rows.{state_in, step_road}
use Rattle.lists.specs.Fits.{RowFits}
use Rattle.link_table.specs.Table.{link_in, table_road, junction_in}

-- a row of nodes 0..N with these states, flows and off-ramp flows; flows have words where the width is 4, off-ramp flows where it is 5
unfoldable pub row_of : ℕ → ℕ → (ℕ → NodeState) → (ℕ → Flows) → (ℕ → ℕ) → List ℕ
row_of width links state flows off = row_words width (suc links) (λ i. node_word (state i) (flows i) (off i))

-- a row of a state: no flow, and nothing leaves
abbrev pub rest_row : ℕ → ℕ → (ℕ → NodeState) → List ℕ
rest_row width links state = row_of width links state (λ i. no_flow) (λ i. 0)

-- a row with the words of node i stored anew
unfoldable pub put_exit : ℕ → List ℕ → ℕ → ℕ → List ℕ
put_exit width row i off = cond (ltb 4 width) (set row (i * width + 4) off) row

unfoldable pub put_node : ℕ → List ℕ → ℕ → NodeState → Flows → ℕ → List ℕ
put_node width row i state flows off =
    put_exit width
    (set (set (set (set row (i * width) state.vehicles) (i * width + 1) state.queue) (i * width + 2) flows.main) (i * width + 3) flows.ramp)
    i off

-- the corridor's start
unfoldable pub start_row : List ℕ → ℕ → List ℕ
start_row corridor links = rest_row 2 links (λ i. (node_at corridor i).start)

-- ---- rules 1 to 5

-- the flows of node i from a state, at the rate and limit of a plan's row, where its supply is told
abbrev pub flows_from : List ℕ → List ℕ → List ℕ → List ℕ → ℕ → ℕ → Flows
flows_from table demand plan state supply i = flows_with (junction_in 2 table demand state supply i) (get_or plan (i * 2 + 0) 0) (get_or plan (i * 2 + 1) 0)

-- and where it is the receiving of the next link, or what may pass beyond link N
unfoldable pub row_flows : List ℕ → ℕ → List ℕ → ℕ → List ℕ → List ℕ → ℕ → Flows
row_flows table links demand downstream plan state i =
    flows_with (junction (table_road table links demand downstream) 0 (state_in 2 state) i) (get_or plan (i * 2 + 0) 0) (get_or plan (i * 2 + 1) 0)

abbrev pub flow_word : Flows → ℕ → ℕ
flow_word flows zero = flows.main
flow_word flows (suc q) = flows.ramp

unfoldable pub flow_row : List ℕ → ℕ → List ℕ → ℕ → List ℕ → List ℕ → List ℕ
flow_row table links demand downstream plan state = row_words 2 (suc links) (λ i. flow_word (row_flows table links demand downstream plan state i))

-- ---- the record's row, and rule 6

-- the flows of node i in a row of flows
unfoldable pub passed_in : List ℕ → ℕ → Flows
passed_in flows i = record { main = get_or flows (i * 2 + 0) 0; ramp = get_or flows (i * 2 + 1) 0 }

-- what leaves by its off-ramp
abbrev pub left_in : List ℕ → List ℕ → ℕ → ℕ
left_in demand flows i = exit (passed_in flows i).main (get_or demand (i * 2 + 1) 0)

unfoldable pub record_row : ℕ → ℕ → List ℕ → List ℕ → List ℕ → List ℕ
record_row width links demand state flows = row_of width links (state_in 2 state) (passed_in flows) (left_in demand flows)

-- the next state of node i, by rule 6, which asks nothing of the corridor, nor of what may pass beyond it
unfoldable pub next_in : List ℕ → List ℕ → List ℕ → ℕ → NodeState
next_in demand state flows = next (step_road [] demand 0) 0 (state_in 2 state) (passed_in flows)

unfoldable pub next_row : ℕ → List ℕ → List ℕ → List ℕ → List ℕ
next_row links demand state flows = rest_row 2 links (next_in demand state flows)

-- ---- what is asked

-- of node i: vehicles and queue no more than a run within limits ever has, arrivals, split and limit in their ranges
pub record StepKept (table demand plan state : List ℕ) (i : ℕ) : Type 0 where
  pub jam : (state_in 2 state i).vehicles ≤ (link_in table i).jam
  pub vehicles : (state_in 2 state i).vehicles ≤ 65536
  pub queue : (state_in 2 state i).queue ≤ 228589568
  pub arrivals : get_or demand (i * 2 + 0) 0 ≤ 65536
  pub split : get_or demand (i * 2 + 1) 0 ≤ 65536
  pub limit : get_or plan (i * 2 + 1) 0 ≤ 65536

-- the table of links, a row of the demands, a row of the plan, and the state
pub record RowsFit (table demand plan state : List ℕ) (links : ℕ) : Type 0 where
  pub few : links ≤ 64
  pub table_fits : RowFits 8 table links
  pub demand_fits : RowFits 2 demand links
  pub plan_fits : RowFits 2 plan links
  pub state_fits : RowFits 2 state links
  pub kept : (i : ℕ) → i ≤ links → StepKept table demand plan state i

-- by rule 6 of node i
pub record MoveKept (demand state flows : List ℕ) (i : ℕ) : Type 0 where
  pub main : (passed_in flows i).main ≤ (state_in 2 state i).vehicles
  pub ramp : (passed_in flows i).ramp ≤ (state_in 2 state i).queue
  pub vehicles : (state_in 2 state i).vehicles ≤ 65536
  pub queue : (state_in 2 state i).queue ≤ 228589568
  pub arrivals : get_or demand (i * 2 + 0) 0 ≤ 65536
  pub split : get_or demand (i * 2 + 1) 0 ≤ 65536

pub record MovesFit (demand state flows : List ℕ) (links : ℕ) : Type 0 where
  pub few : links ≤ 64
  pub demand_fits : RowFits 2 demand links
  pub state_fits : RowFits 2 state links
  pub flows_fit : RowFits 2 flows links
  pub kept : (i : ℕ) → i ≤ links → MoveKept demand state flows i

-- ---- what is given

-- of node i, whose link gains `gained`: its words in the record's row and in the state, what it passes on, and its next vehicles and queue
pub record NodeMoved (width : ℕ) (demand state flows row : List ℕ) (i gained : ℕ) (after written : List ℕ) (outward total : ℕ) : Type 0 where
  pub stored : written ≡ put_node width row i (state_in 2 state i) (passed_in flows i) (left_in demand flows i)
  pub moves : after ≡ set (set state (i * 2) (moved (state_in 2 state i) gained (get_or demand (i * 2 + 0) 0) (passed_in flows i)).vehicles) (i * 2 + 1)
      (moved (state_in 2 state i) gained (get_or demand (i * 2 + 0) 0) (passed_in flows i)).queue
  pub passes : outward ≡ outflow (passed_in flows i) (get_or demand (i * 2 + 1) 0)
  pub small : outward ≤ 228655104
  pub adds : total ≡ (moved (state_in 2 state i) gained (get_or demand (i * 2 + 0) 0) (passed_in flows i)).vehicles
      + (moved (state_in 2 state i) gained (get_or demand (i * 2 + 0) 0) (passed_in flows i)).queue
  pub low : total ≤ 8589934590

-- of all nodes: the record's row, the next state, and its vehicles and queues
pub record RowMoved (width : ℕ) (demand state flows : List ℕ) (links : ℕ) (row after : List ℕ) (total : ℕ) : Type 0 where
  pub written : row ≡ record_row width links demand state flows
  pub moves : after ≡ next_row links demand state flows
  pub adds : total ≡ state_cost (suc links) (next_in demand state flows)
  pub low : total ≤ 558345748350

-- of a step: all of these, with the flows that rules 1 to 5 give
pub record Stepped (width : ℕ) (table : List ℕ) (links : ℕ) (demand : List ℕ) (downstream : ℕ) (plan state flows row after : List ℕ) (total : ℕ) : Type 0 where
  pub passed : flows ≡ flow_row table links demand downstream plan state
  pub gives : RowMoved width demand state flows links row after total

-- the vehicles and queues of a record's row
unfoldable pub row_cost : ℕ → ℕ → List ℕ → ℕ
row_cost width links row = state_cost (suc links) (state_in width row)
