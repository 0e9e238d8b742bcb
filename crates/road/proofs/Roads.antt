-- What a plan does on a road is told by nodes 0..N and steps 0..K − 1 alone: roads that agree there do the same.
use Prim.Native.Nat.{ℕ, zero, suc, ◌≤◌, ◌<◌}
use mathlib.Core.Path.{◌≡◌, refl, sym, ap, ap₂, ◌∙◌}
use mathlib.Core.Logic.{⊎_elim}
use native.Mathlib.Omega.{arith}
use Rattle.tables.proofs.Numbers.{le_or_lt}
use Rattle.road.specs.Corridor.{Node, NodeState, Road, Plan, Flows}
use Rattle.road.specs.Step.{Junction, receiving, flows_with, outflow, moved}
use Rattle.road.specs.Run.{supply, junction, inflow, next, plan_flows, state_at, run}
use Rattle.road.proofs.Runs.{supply_inside, supply_last, run_flows, run_last}
use Rattle.road.proofs.Same.{Same, SameTraces, junction_same, next_same}

pub record SameRoads (road other : Road) : Type 0 where
  pub links : road.links ≡ other.links
  pub steps : road.steps ≡ other.steps
  pub node : (i : ℕ) → i ≤ road.links → road.node i ≡ other.node i
  pub arrivals : (k i : ℕ) → k < road.steps → i ≤ road.links → road.arrivals k i ≡ other.arrivals k i
  pub split : (k i : ℕ) → k < road.steps → i ≤ road.links → road.split k i ≡ other.split k i
  pub downstream : (k : ℕ) → k < road.steps → road.downstream k ≡ other.downstream k

-- the other road with N and K of the first, which it has too: what is said of the two then has one N and one K
abbrev pub with_sizes : Road → Road → Road
with_sizes road other =
    record {
      links = road.links;
      steps = road.steps;
      node = other.node;
      arrivals = other.arrivals;
      split = other.split;
      downstream = other.downstream;
    }

pub with_sizes_lem : (road other : Road) → SameRoads road other → with_sizes road other ≡ other
with_sizes_lem road other e =
    λ z. record {
      links = e.links z;
      steps = e.steps z;
      node = other.node;
      arrivals = other.arrivals;
      split = other.split;
      downstream = other.downstream;
    }

module _ (road other : Road) (e : SameRoads road other) where
  -- ---- a node at a step, in one state

  roads_supply : (k : ℕ) (state : ℕ → NodeState) (i : ℕ) → k < road.steps → i ≤ road.links
      → supply road k state i ≡ supply (with_sizes road other) k state i
  roads_supply k state i hk hi =
      ⊎_elim
      (λ (g : road.links ≤ i).
      let q : i ≡ road.links = omega arith in
      ap (supply road k state) q
      ∙ supply_last road k state
      ∙ e.downstream k hk
      ∙ sym (ap (supply (with_sizes road other) k state) q ∙ supply_last (with_sizes road other) k state))
      (λ (g : i < road.links).
      supply_inside road k state i g
      ∙ ap (λ (n : Node). receiving n.link (state (suc i)).vehicles) (e.node (suc i) g)
      ∙ sym (supply_inside (with_sizes road other) k state i g))
      (le_or_lt road.links i)

  pub roads_junction : (k : ℕ) (state : ℕ → NodeState) (i : ℕ) → k < road.steps → i ≤ road.links
      → junction road k state i ≡ junction (with_sizes road other) k state i
  unfolding junction
  roads_junction k state i hk hi =
      λ z. record {
        link = (e.node i hi z).link;
        ramp = (e.node i hi z).ramp;
        state = state i;
        split = e.split k i hk hi z;
        supply = roads_supply k state i hk hi z;
      }

  -- ---- rule 6

  roads_inflow : (k : ℕ) (flows : ℕ → Flows) (i : ℕ) → k < road.steps → i ≤ road.links → inflow road k flows i ≡ inflow (with_sizes road other) k flows i
  unfolding inflow
  roads_inflow k flows zero hk hi = refl
  roads_inflow k flows (suc i) hk hi = ap (outflow (flows i)) (e.split k i hk (omega arith))

  pub roads_next : (k : ℕ) (state : ℕ → NodeState) (flows : ℕ → Flows) (i : ℕ) → k < road.steps → i ≤ road.links
      → next road k state flows i ≡ next (with_sizes road other) k state flows i
  unfolding next
  roads_next k state flows i hk hi = ap₂ (λ (x q : ℕ). moved (state i) x q (flows i)) (roads_inflow k flows i hk hi) (e.arrivals k i hk hi)

  -- ---- a run

  module _ (plan : Plan) where
    roads_flows : (k : ℕ) (state after : ℕ → NodeState) → k < road.steps → Same road state after
        → Same road (plan_flows road plan k state) (plan_flows (with_sizes road other) plan k after)
    unfolding plan_flows
    roads_flows k state after hk s i hi =
        ap (λ (j : Junction). flows_with j (plan.rate k i) (plan.limit k i))
        (roads_junction k state i hk hi ∙ junction_same (with_sizes road other) k state after i s hi)

    roads_state : (k : ℕ) → k ≤ road.steps → Same road (state_at road plan k) (state_at (with_sizes road other) plan k)
    unfolding state_at
    roads_state zero hk i hi = ap (λ (n : Node). n.start) (e.node i hi)
    roads_state (suc k) hk i hi =
        let before = roads_state k (omega arith) in
        roads_next k (state_at road plan k) (plan_flows road plan k (state_at road plan k)) i hk hi
        ∙ next_same (with_sizes road other) k _ _ _ _ i before (roads_flows k _ _ hk before) hi

    pub roads_run : SameTraces road (run road plan) (run (with_sizes road other) plan)
    unfolding run
    roads_run k i hk hi =
        record {
          state = roads_state k hk i hi;
          flows = ⊎_elim
              (λ (g : road.steps ≤ k).
              let q : k ≡ road.steps = omega arith in
              ap (λ (j : ℕ). (run road plan).flows j i) q
              ∙ run_last road plan i
              ∙ sym (ap (λ (j : ℕ). (run (with_sizes road other) plan).flows j i) q ∙ run_last (with_sizes road other) plan i))
              (λ (g : k < road.steps).
              run_flows road plan k i g
              ∙ roads_flows k _ _ g (roads_state k hk) i hi
              ∙ sym (run_flows (with_sizes road other) plan k i g))
              (le_or_lt road.steps k);
        }
