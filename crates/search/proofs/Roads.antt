-- Roads that agree at every node and step, and traces that do, have the same searches.
use Prim.Native.Nat.{ℕ, ◌≤◌, ◌<◌}
use mathlib.Core.List.{List}
use mathlib.Core.Path.{◌≡◌, ap, ap₂, ◌∙◌}
use native.Mathlib.Omega.{arith}
use Rattle.road.specs.Corridor.{Road, Trace}
use Rattle.road.specs.Step.{Junction}
use Rattle.road.proofs.Roads.{SameRoads, with_sizes_lem, roads_junction}
use Rattle.road.proofs.Same.{SameTraces, junction_same}
use Rattle.settings.specs.Rate.{search}
use Rattle.lists.specs.Words.{trace_of}
use Rattle.search.specs.Search.{search_at}

pub roads_search : (road other : Road) → SameRoads road other → (width : ℕ) (words : List ℕ) (k i : ℕ) → k < road.steps → i ≤ road.links
    → search_at road (trace_of width road words) k i ≡ search_at other (trace_of width other words) k i
unfolding search_at trace_of
roads_search road other e width words k i hk hi =
    let trace : Trace = trace_of width road words in
    ap (λ (j : Junction). search j (trace.flows k i)) (roads_junction road other e k (trace.state k) i hk hi)
    ∙ ap (λ (x : Road). search_at x (trace_of width x words) k i) (with_sizes_lem road other e)

pub traces_search : (road : Road) (trace other : Trace) → SameTraces road trace other → (k i : ℕ) → k < road.steps → i ≤ road.links → search_at road trace k i ≡ search_at road other k i
unfolding search_at
traces_search road trace other same k i hk hi =
    ap₂ search (junction_same road k (trace.state k) (other.state k) i (λ j hj. (same k j (omega arith) hj).state) hi) (same k i (omega arith) hi).flows
