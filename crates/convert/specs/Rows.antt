-- The refusals of a record row by row, as the scans of the lists find them, and what the lists keep where they begin.
use Rattle.std.specs.Prelude.{ℕ, suc, ◌≡◌, List, [], length}
use Rattle.tables.specs.Answer.{Answer}
use Rattle.tables.specs.Answer.{refusal}
use Rattle.tables.specs.First.{first_node, first_place}
use Rattle.road.specs.Run.{state_cost, cost}
use Rattle.road.specs.Limits.{Limits}
use Rattle.lists.specs.Words.{road_of, Width, trace_of, exits_of, record_length}
use Rattle.lists.specs.Fits.{CorridorFits, DemandsFit}
use Rattle.convert_rows.specs.Rows.{bare_road}
use Rattle.convert.specs.Refusals.{cost_fault, fixed_at, step_at}

-- ---- 7 and 13: they ask nothing of the demands

-- 7 in state k
abbrev pub fixed_row_refusal : ℕ → List ℕ → ℕ → ℕ → List ℕ → ℕ → Answer
fixed_row_refusal width corridor links steps words k =
    first_node (suc links) k (fixed_at (bare_road corridor links steps) (trace_of width (bare_road corridor links steps) words) (exits_of width (bare_road corridor links steps) words) k)

-- 7 over the whole record
abbrev pub fixed_refusal : ℕ → List ℕ → ℕ → ℕ → List ℕ → Answer
fixed_refusal width corridor links steps words =
    first_place (suc steps) (suc links) (fixed_at (bare_road corridor links steps) (trace_of width (bare_road corridor links steps) words) (exits_of width (bare_road corridor links steps) words))

-- the vehicles and queues of state k + 1 of a record
abbrev pub state_cost_at : ℕ → ℕ → ℕ → List ℕ → ℕ → ℕ
state_cost_at width links steps words k = state_cost (suc links) ((trace_of width (bare_road [] links steps) words).state (suc k))

-- those of states 1..K, and that a number is their sum in a record of the right length
abbrev pub cost_in : ℕ → ℕ → ℕ → List ℕ → ℕ
cost_in width links steps words = cost (bare_road [] links steps) (trace_of width (bare_road [] links steps) words)

pub record CostKnown (width links steps : ℕ) (words : List ℕ) (total : ℕ) : Type 0 where
  pub fits : length words ≡ record_length width links steps
  pub is : total ≡ cost_in width links steps words

-- 13
abbrev pub cost_refusal : ℕ → ℕ → ℕ → List ℕ → Answer
cost_refusal width links steps words = refusal (cost_fault width (bare_road [] links steps) words) 0 0

-- ---- 8 to 12

-- in step k
abbrev pub step_refusal : ℕ → List ℕ → List ℕ → ℕ → List ℕ → ℕ → Answer
step_refusal width corridor demands links words k =
    first_node (suc links) k (step_at (road_of corridor demands) (trace_of width (road_of corridor demands) words) (exits_of width (road_of corridor demands) words) k)

-- over the steps before step k
abbrev pub steps_refusal : ℕ → List ℕ → List ℕ → ℕ → List ℕ → ℕ → Answer
steps_refusal width corridor demands links words k =
    first_place k (suc links) (step_at (road_of corridor demands) (trace_of width (road_of corridor demands) words) (exits_of width (road_of corridor demands) words))

-- ---- what is asked

-- of the lists: what refusals 1 to 5 leave, with links and steps as the code has them
pub record Ready (width : ℕ) (corridor demands words : List ℕ) (links steps : ℕ) : Type 0 where
  pub corridor_fits : CorridorFits corridor links
  pub demands_fit : DemandsFit demands links steps
  pub record_fits : length words ≡ record_length width links steps
  pub wide : Width width
  pub limits : Limits (road_of corridor demands)
