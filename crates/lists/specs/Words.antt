-- The word lists of document 01 and of requests 01, 04 and 07: where each word stands, how long each list is, and what corridor, demands, plan and record the words say.
use Rattle.std.specs.Prelude.{ℕ, zero, suc, ◌+◌, ◌*◌, ◌/◌, ◌%◌, ◌≤◌, List, [], ◌∷◌, ◌++◌, cond, eqb, ltb, length, get_or, Option, Some, None}
use Rattle.tables.specs.Grid.{grid, place}
use Rattle.road.specs.declared.Units.{Units}
use Rattle.road.specs.Corridor.{Node, NodeState, Flows, Road, Plan, Trace, nodes}
use Rattle.road.specs.Step.{exit}
use Rattle.road.specs.Run.{cost}

-- ---- Corridor: N, then for nodes 0..N: identifier, F, V, W, J, C, L, starting n, starting l; in kind 10 also dropped capacity and drop density

unfoldable pub links_of : List ℕ → ℕ
links_of corridor = get_or corridor 0 0

-- the words of N and of nodes 0..N, where a node has `width` words: 9 in kind 1, 11 in kind 10
abbrev pub corridor_length : ℕ → ℕ → ℕ
corridor_length width links = 1 + suc links * width

-- of two numbers the one for kind 10, where the corridor has its length for this N, and else the one for kind 1
unfoldable pub by_kind : ℕ → ℕ → ℕ → ℕ → ℕ
by_kind links count dropped plain = cond (eqb count (corridor_length 11 links)) dropped plain

-- the words of a node
abbrev pub node_width : ℕ → ℕ → ℕ
node_width links count = by_kind links count 11 9

-- where a node's dropped capacity and its drop density stand among its words: kind 1 has neither, and its F and its J, words 1 and 4, count as them
abbrev pub dropped_place : ℕ → ℕ → ℕ
dropped_place links count = by_kind links count 9 1

abbrev pub density_place : ℕ → ℕ → ℕ
density_place links count = by_kind links count 10 4

-- word q of node i
abbrev pub corridor_word : List ℕ → ℕ → ℕ → ℕ
corridor_word corridor i q = get_or corridor (1 + (i * node_width (links_of corridor) (length corridor) + q)) 0

unfoldable pub node_at : List ℕ → ℕ → Node
node_at corridor i =
    record {
      identifier = corridor_word corridor i 0;
      link =
          record {
            capacity = corridor_word corridor i 1;
            full_speed = corridor_word corridor i 2;
            wave_speed = corridor_word corridor i 3;
            jam = corridor_word corridor i 4;
            dropped_capacity = corridor_word corridor i (dropped_place (links_of corridor) (length corridor));
            drop_density = corridor_word corridor i (density_place (links_of corridor) (length corridor));
          };
      ramp = record { capacity = corridor_word corridor i 5; queue_limit = corridor_word corridor i 6 };
      start = record { vehicles = corridor_word corridor i 7; queue = corridor_word corridor i 8 };
    }

-- ---- Demands: K, then by step and node: Q, b; in kind 5 then by step the flow that may leave link N

unfoldable pub steps_of : List ℕ → ℕ
steps_of demands = get_or demands 0 0

-- word q of node i at step k
abbrev pub demands_word : List ℕ → ℕ → ℕ → ℕ → ℕ → ℕ
demands_word demands links k i q = get_or demands (1 + place 2 (suc links) k i q) 0

-- the words of kind 2
abbrev pub demands_length : ℕ → ℕ → ℕ
demands_length links steps = 1 + steps * (suc links * 2)

-- and of kind 5, which has one more for each step
abbrev pub downstream_length : ℕ → ℕ → ℕ
downstream_length links steps = demands_length links steps + steps

-- traffic past link N is free: as much may leave it as any link sends
abbrev pub free : ℕ
free = 65536

-- the flow that may leave link N in step k: a list of kind 2 ends before this word, and counts as 65,536 throughout
abbrev pub downstream_word : List ℕ → ℕ → ℕ → ℕ → ℕ
downstream_word demands links steps k = get_or demands (demands_length links steps + k) free

-- the corridor and the demands together
unfoldable pub road_of : List ℕ → List ℕ → Road
road_of corridor demands =
    record {
      links = links_of corridor;
      steps = steps_of demands;
      node = node_at corridor;
      arrivals = λ k i. demands_word demands (links_of corridor) k i 0;
      split = λ k i. demands_word demands (links_of corridor) k i 1;
      downstream = downstream_word demands (links_of corridor) (steps_of demands);
    }

-- ---- Plan: by step and node: rate, limit

unfoldable pub plan_of : Road → List ℕ → Plan
plan_of road words =
    record {
      rate = λ k i. get_or words (place 2 (nodes road) k i 0) 0;
      limit = λ k i. get_or words (place 2 (nodes road) k i 1) 0;
    }

unfoldable pub plan_word : Plan → ℕ → ℕ → ℕ → ℕ
plan_word plan k i zero = plan.rate k i
plan_word plan k i (suc q) = plan.limit k i

unfoldable pub plan_words : Road → Plan → List ℕ
plan_words road plan = grid 2 (nodes road) road.steps (plan_word plan)

-- ---- Record: by state 0..K and node: n, l, f, r, and in kind 7 the off-ramp flow; then the cost as low and high 32 bits

-- how many words a node has: 4 in kind 3, 5 in kind 7; definitions and laws take it as `width`
pub record Width (width : ℕ) : Type 0 where
  pub least : 4 ≤ width
  pub most : width ≤ 5

unfoldable pub trace_of : ℕ → Road → List ℕ → Trace
trace_of width road words =
    record {
      state = λ k i. record { vehicles = get_or words (place width (nodes road) k i 0) 0; queue = get_or words (place width (nodes road) k i 1) 0 };
      flows = λ k i. record { main = get_or words (place width (nodes road) k i 2) 0; ramp = get_or words (place width (nodes road) k i 3) 0 };
    }

-- what a record says of a node's off-ramp flow, where `word` is the one after r: in kind 3 it is another node's, and nothing is said
unfoldable pub exit_said : ℕ → ℕ → Option Units
exit_said width word = cond (ltb 4 width) (Some (record { 0 = word })) None

abbrev pub exits_of : ℕ → Road → List ℕ → ℕ → ℕ → Option Units
exits_of width road words k i = exit_said width (get_or words (place width (nodes road) k i 4) 0)

-- the words of a node, its off-ramp flow the fifth
unfoldable pub node_word : NodeState → Flows → ℕ → ℕ → ℕ
node_word state flows off zero = state.vehicles
node_word state flows off (suc zero) = state.queue
node_word state flows off (suc (suc zero)) = flows.main
node_word state flows off (suc (suc (suc zero))) = flows.ramp
node_word state flows off (suc (suc (suc (suc q)))) = off

-- the flow that leaves by the off-ramp of node i in step k: x × b / 65,536 of its f
abbrev pub exit_at : Road → Trace → ℕ → ℕ → ℕ
exit_at road trace k i = exit (trace.flows k i).main (road.split k i)

abbrev pub trace_word : Road → Trace → ℕ → ℕ → ℕ → ℕ
trace_word road trace k i = node_word (trace.state k i) (trace.flows k i) (exit_at road trace k i)

unfoldable pub trace_words : ℕ → Road → Trace → List ℕ
trace_words width road trace = grid width (nodes road) (suc road.steps) (trace_word road trace)

abbrev pub low_high : ℕ → List ℕ
low_high n = n % 4294967296 ∷ n / 4294967296 ∷ []

unfoldable pub record_words : ℕ → Road → Trace → List ℕ
record_words width road trace = trace_words width road trace ++ low_high (cost road trace)

-- ---- lengths

abbrev pub plan_length : ℕ → ℕ → ℕ
plan_length links steps = steps * (suc links * 2)

-- the words of states 0..K
abbrev pub trace_length : ℕ → ℕ → ℕ → ℕ
trace_length width links steps = suc steps * (suc links * width)

abbrev pub record_length : ℕ → ℕ → ℕ → ℕ
record_length width links steps = trace_length width links steps + 2

-- "a lent record too" tells its kind by its length: the width of a record of `count` words, for this N and K
unfoldable pub record_width : ℕ → ℕ → ℕ → ℕ
record_width links steps count = cond (eqb count (record_length 5 links steps)) 5 4

abbrev pub width_of : List ℕ → List ℕ → ℕ → ℕ
width_of corridor demands count = record_width (links_of corridor) (steps_of demands) count
