-- One step's rows: what a row of the demands, with what may pass beyond link N, and a row of a record say, so that a step can be done on its
-- rows alone.
use Rattle.std.specs.Prelude.{ℕ, ◌+◌, ◌-◌, ◌*◌, List, Option, get_or, take, drop}
use Rattle.road.specs.declared.Units.{Units}
use Rattle.road.specs.Corridor.{NodeState, Road, Flows}
use Rattle.lists.specs.Words.{links_of, node_at, exit_said}

-- the n words of a list from word `at` on, as a row of it is lent
abbrev pub lent : ℕ → ℕ → List ℕ → List ℕ
lent at n list = take (at + n - at) (drop at list)

-- the state and the flows of node i in a record's row, and what the row says of its exit
unfoldable pub state_in : ℕ → List ℕ → ℕ → NodeState
state_in width row i = record { vehicles = get_or row (i * width + 0) 0; queue = get_or row (i * width + 1) 0 }

unfoldable pub flows_in : ℕ → List ℕ → ℕ → Flows
flows_in width row i = record { main = get_or row (i * width + 2) 0; ramp = get_or row (i * width + 3) 0 }

abbrev pub exit_in : ℕ → List ℕ → ℕ → Option Units
exit_in width row i = exit_said width (get_or row (i * width + 4) 0)

-- a corridor whose demands are those of one row at each step
unfoldable pub step_road : List ℕ → List ℕ → ℕ → Road
step_road corridor row downstream =
    record {
      links = links_of corridor;
      steps = 1;
      node = node_at corridor;
      arrivals = λ k i. get_or row (i * 2 + 0) 0;
      split = λ k i. get_or row (i * 2 + 1) 0;
      downstream = λ k. downstream;
    }
