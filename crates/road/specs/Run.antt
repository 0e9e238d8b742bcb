-- A run of a plan: rule 6 over all nodes, state k, the record's trace and its total cost.
use Rattle.std.specs.Prelude.{ℕ, zero, suc, ◌+◌, ◌≡◌, cond, ltb}
use Rattle.tables.specs.Sum.{sum}
use Rattle.road.specs.Corridor.{NodeState, Road, Plan, Flows, Trace, nodes}
use Rattle.road.specs.Step.{Junction, receiving, flows_with, outflow, moved}

-- S, what node i's merge may pass on in step k: the receiving of link i + 1, and at node N the flow that may leave link N
unfoldable pub supply : Road → ℕ → (ℕ → NodeState) → ℕ → ℕ
supply road k state i =
    cond (ltb i road.links) (receiving (road.node (suc i)).link (state (suc i)).vehicles) (road.downstream k)

-- past link N traffic is free in step k: 65,536 is as much as any link sends
abbrev pub FreeBeyond : Road → ℕ → Type 0
FreeBeyond road k = road.downstream k ≡ 65536

-- node i at step k
unfoldable pub junction : Road → ℕ → (ℕ → NodeState) → ℕ → Junction
junction road k state i =
    record {
      link = (road.node i).link;
      ramp = (road.node i).ramp;
      state = state i;
      split = road.split k i;
      supply = supply road k state i;
    }

-- what link i gains in step k: the outflow of node i − 1
unfoldable pub inflow : Road → ℕ → (ℕ → Flows) → ℕ → ℕ
inflow road k flows zero = 0
inflow road k flows (suc i) = outflow (flows i) (road.split k i)

-- 6. All nodes move at once, from the state at the step's start
unfoldable pub next : Road → ℕ → (ℕ → NodeState) → (ℕ → Flows) → ℕ → NodeState
next road k state flows i = moved (state i) (inflow road k flows i) (road.arrivals k i) (flows i)

-- the flows of step k under a plan
unfoldable pub plan_flows : Road → Plan → ℕ → (ℕ → NodeState) → ℕ → Flows
plan_flows road plan k state i = flows_with (junction road k state i) (plan.rate k i) (plan.limit k i)

-- state k of a plan
unfoldable pub state_at : Road → Plan → ℕ → ℕ → NodeState
state_at road plan zero = λ i. (road.node i).start
state_at road plan (suc k) = next road k (state_at road plan k) (plan_flows road plan k (state_at road plan k))

unfoldable pub no_flow : Flows
no_flow = record { main = 0; ramp = 0 }

-- what a plan does: states 0..K, and the flows of steps 0..K − 1
unfoldable pub run : Road → Plan → Trace
run road plan =
    record {
      state = state_at road plan;
      flows = λ k i. cond (ltb k road.steps) (plan_flows road plan k (state_at road plan k) i) no_flow;
    }

-- the n and l of a state, over its first `count` nodes
abbrev pub state_cost : ℕ → (ℕ → NodeState) → ℕ
state_cost count state = sum count (λ i. (state i).vehicles + (state i).queue)

-- Total cost: the sum of all n and l over states 1..K
unfoldable pub cost : Road → Trace → ℕ
cost road trace = sum road.steps (λ k. state_cost (nodes road) (trace.state (suc k)))
