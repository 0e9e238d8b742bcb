-- What rules 1 to 6 make of nodes 0..N is told by nodes 0..N alone: states and flows that agree there do the same.
use Prim.Native.Nat.{ℕ, zero, suc, ◌+◌, ◌≤◌, ◌<◌}
use mathlib.Core.Path.{◌≡◌, refl, sym, ap, ◌∙◌}
use mathlib.Core.Logic.{⊎_elim}
use native.Mathlib.Omega.{arith}
use Rattle.tables.specs.Sum.{sum}
use Rattle.tables.proofs.Numbers.{le_or_lt}
use Rattle.tables.proofs.Sum.{sum_same}
use Rattle.road.specs.Corridor.{NodeState, Road, Plan, Flows, Trace, nodes}
use Rattle.road.specs.Step.{receiving, outflow, moved}
use Rattle.road.specs.Run.{supply, junction, inflow, next, cost}
use Rattle.road.proofs.Runs.{supply_inside, supply_last}

-- equal at nodes 0..N
abbrev pub Same : Road → {A : Type 0} → (ℕ → A) → (ℕ → A) → Type 0
Same road x y = (i : ℕ) → i ≤ road.links → x i ≡ y i

-- two plans are equal at every step and node
pub record SameSetting (plan other : Plan) (k i : ℕ) : Type 0 where
  pub rate : plan.rate k i ≡ other.rate k i
  pub limit : plan.limit k i ≡ other.limit k i

abbrev pub SamePlans : Road → Plan → Plan → Type 0
SamePlans road plan other = (k i : ℕ) → k < road.steps → i ≤ road.links → SameSetting plan other k i

-- two traces are equal at every state and node
pub record SamePlace (trace other : Trace) (k i : ℕ) : Type 0 where
  pub state : trace.state k i ≡ other.state k i
  pub flows : trace.flows k i ≡ other.flows k i

abbrev pub SameTraces : Road → Trace → Trace → Type 0
SameTraces road trace other = (k i : ℕ) → k ≤ road.steps → i ≤ road.links → SamePlace trace other k i

pub same_traces_back : (road : Road) (trace other : Trace) → SameTraces road trace other → SameTraces road other trace
same_traces_back road trace other e k i hk hi = record { state = sym (e k i hk hi).state; flows = sym (e k i hk hi).flows }

module _ (road : Road) where
  -- ---- a node at a step

  pub supply_same : (k : ℕ) (state other : ℕ → NodeState) (i : ℕ) → Same road state other → i ≤ road.links → supply road k state i ≡ supply road k other i
  supply_same k state other i e h =
      ⊎_elim
      (λ (g : road.links ≤ i).
      let q : i ≡ road.links = omega arith in
      ap (λ (j : ℕ). supply road k state j) q ∙ supply_last road k state ∙ sym (ap (λ (j : ℕ). supply road k other j) q ∙ supply_last road k other))
      (λ (g : i < road.links).
      supply_inside road k state i g
      ∙ ap (λ (s : NodeState). receiving (road.node (suc i)).link s.vehicles) (e (suc i) g)
      ∙ sym (supply_inside road k other i g))
      (le_or_lt road.links i)

  pub junction_same : (k : ℕ) (state other : ℕ → NodeState) (i : ℕ) → Same road state other → i ≤ road.links → junction road k state i ≡ junction road k other i
  unfolding junction
  junction_same k state other i e h =
      λ z. record {
        link = (road.node i).link;
        ramp = (road.node i).ramp;
        state = e i h z;
        split = road.split k i;
        supply = supply_same k state other i e h z;
      }

  -- ---- rule 6

  pub inflow_same : (k : ℕ) (flows other : ℕ → Flows) (i : ℕ) → Same road flows other → i ≤ road.links → inflow road k flows i ≡ inflow road k other i
  unfolding inflow
  inflow_same k flows other zero e h = refl
  inflow_same k flows other (suc i) e h = ap (λ (x : Flows). outflow x (road.split k i)) (e i (omega arith))

  pub next_same : (k : ℕ) (state after : ℕ → NodeState) (flows other : ℕ → Flows) (i : ℕ) → Same road state after → Same road flows other → i ≤ road.links
      → next road k state flows i ≡ next road k after other i
  unfolding next
  next_same k state after flows other i e f h = λ z. moved (e i h z) (inflow_same k flows other i f h z) (road.arrivals k i) (f i h z)

  -- ---- the total cost

  pub cost_same : (trace other : Trace) → SameTraces road trace other → cost road trace ≡ cost road other
  unfolding cost
  cost_same trace other e =
      sum_same road.steps (λ k. sum (nodes road) (λ i. (trace.state (suc k) i).vehicles + (trace.state (suc k) i).queue)) _
      (λ k hk.
      sum_same (nodes road) (λ i. (trace.state (suc k) i).vehicles + (trace.state (suc k) i).queue) _
      (λ i hi. ap (λ (s : NodeState). s.vehicles + s.queue) (e (suc k) i hk (omega arith)).state))
