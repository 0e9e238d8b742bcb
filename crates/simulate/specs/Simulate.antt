-- The simulator: its answer, and the record that it writes.
use Rattle.std.specs.Prelude.{ℕ, suc, ◌≤◌, ◌≡◌, Bool, ◌&&◌, List, length, eqb}
use Rattle.tables.specs.Answer.{Answer}
use Rattle.tables.specs.Answer.{or_else, sized, left}
use Rattle.road.specs.Limits.{Limits, Bounded}
use Rattle.road.specs.Corridor.{NodeState, Flows}
use Rattle.road.specs.Step.{exit}
use Rattle.road.specs.Run.{plan_flows, state_at, run, state_cost, cost}
use Rattle.lists.specs.Words.{links_of, steps_of, demands_word, road_of, plan_of, trace_words, record_words, demands_length, plan_length, width_of}
use Rattle.lists.specs.Fits.{CorridorFits, RowFits}
use Rattle.link_table.specs.Table.{table_of}
use Rattle.lengths.specs.Lengths.{record_sized, sizes}
use Rattle.list_scans.specs.Refusals.{ranges, plan_bounds}
use Rattle.simulate_rows.specs.Rows.{row_of, rest_row}

-- 1. N, K and all lengths are right; `room` is the length of the lent record
unfoldable pub simulate_sizes : List ℕ → List ℕ → List ℕ → ℕ → Bool
simulate_sizes corridor demands plan room =
    sizes corridor demands
    && (eqb (length plan) (plan_length (links_of corridor) (steps_of demands))
    && record_sized (links_of corridor) (steps_of demands) room)

-- 1, then 2 to 5, then 6
unfoldable pub simulate_answer : List ℕ → List ℕ → List ℕ → ℕ → Answer
simulate_answer corridor demands plan room =
    or_else (sized (simulate_sizes corridor demands plan room))
    (or_else (ranges (road_of corridor demands)) (plan_bounds corridor demands plan))

-- "Its record is what the six rules of a step make of it, the demands and the corridor's start, with the fixed zeros and the cost."
-- A node has `width` words in it, 4 in kind 3 and 5 in kind 7
unfoldable pub simulated : ℕ → List ℕ → List ℕ → List ℕ → List ℕ
simulated width corridor demands plan =
    record_words width (road_of corridor demands) (run (road_of corridor demands) (plan_of (road_of corridor demands) plan))

-- the lent record at exit; its length tells the kind
unfoldable pub record_left : List ℕ → List ℕ → List ℕ → List ℕ → List ℕ
record_left corridor demands plan lent =
    left (simulate_answer corridor demands plan (length lent)) (simulated (width_of corridor demands (length lent)) corridor demands plan) lent

-- what refusals 1 to 6 leave: corridor, demands and plan within limits and bounds
pub record Sound (corridor demands plan : List ℕ) : Type 0 where
  pub corridor_fits : CorridorFits corridor (links_of corridor)
  pub steps : steps_of demands ≤ 1440
  pub demands_fit : demands_length (links_of corridor) (steps_of demands) ≤ length demands
  pub plan_fits : length plan ≡ plan_length (links_of corridor) (steps_of demands)
  pub limits : Limits (road_of corridor demands)
  pub bounded : Bounded (road_of corridor demands) (plan_of (road_of corridor demands) plan)

-- ---- a run row by row

-- state k of a plan's list, and the flows of step k
abbrev pub ran_state : List ℕ → List ℕ → List ℕ → ℕ → ℕ → NodeState
ran_state corridor demands plan k = state_at (road_of corridor demands) (plan_of (road_of corridor demands) plan) k

abbrev pub ran_flows : List ℕ → List ℕ → List ℕ → ℕ → ℕ → Flows
ran_flows corridor demands plan k = plan_flows (road_of corridor demands) (plan_of (road_of corridor demands) plan) k (ran_state corridor demands plan k)

-- what leaves by the off-ramps in step k
abbrev pub ran_exit : List ℕ → List ℕ → List ℕ → ℕ → ℕ → ℕ
ran_exit corridor demands plan k i = exit (ran_flows corridor demands plan k i).main (demands_word demands (links_of corridor) k i 1)

-- the row of state k, with no flow: at a width of 2 the state that a run keeps, at the record's the last row of it
unfoldable pub state_row : ℕ → List ℕ → List ℕ → List ℕ → ℕ → List ℕ
state_row width corridor demands plan k = rest_row width (links_of corridor) (ran_state corridor demands plan k)

-- the record's row of step k
unfoldable pub step_row : ℕ → List ℕ → List ℕ → List ℕ → ℕ → List ℕ
step_row width corridor demands plan k = row_of width (links_of corridor) (ran_state corridor demands plan k) (ran_flows corridor demands plan k) (ran_exit corridor demands plan k)

-- the vehicles and queues of state k
unfoldable pub ran_cost : List ℕ → List ℕ → List ℕ → ℕ → ℕ
ran_cost corridor demands plan k = state_cost (suc (links_of corridor)) (ran_state corridor demands plan k)

-- the cost of states 1..K
unfoldable pub run_cost : List ℕ → List ℕ → List ℕ → ℕ
run_cost corridor demands plan = cost (road_of corridor demands) (run (road_of corridor demands) (plan_of (road_of corridor demands) plan))

-- the record's words of states 0..K
unfoldable pub run_words : ℕ → List ℕ → List ℕ → List ℕ → List ℕ
run_words width corridor demands plan = trace_words width (road_of corridor demands) (run (road_of corridor demands) (plan_of (road_of corridor demands) plan))

-- what a run keeps before step k: the table of its links, state k, and room for the flows of a step
pub record RunAt (corridor demands plan : List ℕ) (k : ℕ) (table state flows : List ℕ) : Type 0 where
  pub tabled : table ≡ table_of corridor (links_of corridor)
  pub reached : state ≡ state_row 2 corridor demands plan k
  pub room : RowFits 2 flows (links_of corridor)

-- what step k makes of state k: the record's row, the next state, that state's vehicles and queues, and the room as long as before
pub record Ran (width : ℕ) (corridor demands plan : List ℕ) (k : ℕ) (flows row after : List ℕ) (total : ℕ) : Type 0 where
  pub written : row ≡ step_row width corridor demands plan k
  pub moved : after ≡ state_row 2 corridor demands plan (suc k)
  pub adds : total ≡ ran_cost corridor demands plan (suc k)
  pub low : total ≤ 558345748350
  pub room : RowFits 2 flows (links_of corridor)

-- what all steps make: the words of all states, and their cost
pub record RanAll (width : ℕ) (corridor demands plan states : List ℕ) (total : ℕ) : Type 0 where
  pub written : states ≡ run_words width corridor demands plan
  pub adds : total ≡ run_cost corridor demands plan
  pub low : total ≤ 804017877624000
