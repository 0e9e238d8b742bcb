-- Refusals 2 to 6 of document 01: the first fault of a node by each number, by step, then node.
use Rattle.std.specs.Prelude.{ℕ, Bool, List, eqb}
use Rattle.tables.specs.Answer.{Answer}
use Rattle.tables.specs.Answer.{or_else, sized}
use Rattle.tables.specs.First.{first_node, first_place}
use Rattle.tables.specs.Least.{least}
use Rattle.road.specs.Corridor.{Road, Plan, nodes}
use Rattle.faults.specs.Lists.{link_fault, ramp_fault, start_fault, demand_fault, plan_fault}
use Rattle.lists.specs.Words.{road_of, plan_of}
use Rattle.lengths.specs.Lengths.{sizes}

-- ---- 3. identifier repeated

-- no node before i has the identifier of node i
unfoldable pub fresh : (ℕ → ℕ) → ℕ → Bool
fresh identifier i = eqb (least (λ j. eqb (identifier j) (identifier i)) i) i

-- ---- the first of each

unfoldable pub link_refusal : Road → Answer
link_refusal road = first_node (nodes road) 0 (λ i. link_fault i (road.node i).link)

unfoldable pub ramp_refusal : Road → Answer
ramp_refusal road =
    first_node (nodes road) 0
    (λ i. ramp_fault (eqb i road.links) (road.node i).identifier (road.node i).ramp (fresh (λ j. (road.node j).identifier) i))

unfoldable pub start_refusal : Road → Answer
start_refusal road = first_node (nodes road) 0 (λ i. start_fault (road.node i))

unfoldable pub demand_refusal : Road → Answer
demand_refusal road =
    first_place road.steps (nodes road) (λ k i. demand_fault road.links i (road.arrivals k i) (road.split k i) (road.downstream k))

-- 2 to 5, each over the whole input in number order
unfoldable pub ranges : Road → Answer
ranges road = or_else (link_refusal road) (or_else (ramp_refusal road) (or_else (start_refusal road) (demand_refusal road)))

-- 6
unfoldable pub bounds : Road → Plan → Answer
bounds road plan =
    first_place road.steps (nodes road) (λ k i. plan_fault (road.node i).link (road.node i).ramp (plan.rate k i) (plan.limit k i))

-- 6, of a plan's list
abbrev pub plan_bounds : List ℕ → List ℕ → List ℕ → Answer
plan_bounds corridor demands plan = bounds (road_of corridor demands) (plan_of (road_of corridor demands) plan)

-- within limits: no refusal of 1 to 5 is due for the corridor and the demands
unfoldable pub limits : List ℕ → List ℕ → Answer
limits corridor demands = or_else (sized (sizes corridor demands)) (ranges (road_of corridor demands))
