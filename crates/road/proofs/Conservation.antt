-- No vehicle is lost or made: what a step finds on the corridor and what arrives is there at its end or has left.
use Prim.Native.Nat.{ℕ, zero, suc, ◌+◌, ◌≤◌, ◌<◌}
use mathlib.Core.Path.{◌≡◌, refl}
use native.Mathlib.Nat.{le_trans}
use native.Mathlib.Omega.{arith}
use Rattle.tables.specs.Sum.{sum}
use Rattle.road.specs.Corridor.{NodeState, Road, Plan, Flows, nodes}
use Rattle.road.specs.Step.{exit, outflow, moved}
use Rattle.road.specs.Run.{junction, inflow, next, plan_flows, state_at, state_cost}
use Rattle.road.specs.Limits.{Limits, Bounded}
use Rattle.road.proofs.Rules.{sending_le, through_exit, flows_sent, flows_offered}
use Rattle.road.proofs.Runs.{link_tops}
use Rattle.road.proofs.Zeros.{exit_ramp_lem}

-- all vehicles on links and ramps
abbrev pub present : Road → (ℕ → NodeState) → ℕ
present road state = state_cost (nodes road) state

abbrev pub arrived : Road → ℕ → ℕ
arrived road k = sum (nodes road) (λ i. road.arrivals k i)

-- what leaves: f − T(f) by each off-ramp, and f of node N
abbrev pub gone : Road → ℕ → (ℕ → Flows) → ℕ
gone road k flows = sum road.links (λ i. exit (flows i).main (road.split k i)) + (flows road.links).main

-- no more flows from a node than it has: f ≤ n and r ≤ l
pub record Drawn (state : NodeState) (flows : Flows) : Type 0 where
  pub main : flows.main ≤ state.vehicles
  pub ramp : flows.ramp ≤ state.queue

module _ (road : Road) (k : ℕ) (state : ℕ → NodeState) (flows : ℕ → Flows) where
  -- over the first m nodes
  moved_sum : (m : ℕ) → ((i : ℕ) → i < m → Drawn (state i) (flows i))
      → sum m (λ i. (next road k state flows i).vehicles + (next road k state flows i).queue) + sum m (λ i. (flows i).main + (flows i).ramp)
      ≡ sum m (λ i. (state i).vehicles + (state i).queue) + sum m (λ i. inflow road k flows i) + sum m (λ i. road.arrivals k i)
  unfolding sum next moved
  moved_sum zero h = refl
  moved_sum (suc m) h = let d = h m (omega arith) in omega (arith, moved_sum m (λ i l. h i (omega arith)))

  -- what the first m + 1 links gain, the first m nodes pass on; with what leaves by their off-ramps it is all that flows there
  gain_sum : (m : ℕ) → ((i : ℕ) → i < m → road.split k i ≤ 65536)
      → sum (suc m) (λ i. inflow road k flows i) + sum m (λ i. exit (flows i).main (road.split k i)) ≡ sum m (λ i. (flows i).main + (flows i).ramp)
  unfolding sum inflow outflow
  gain_sum zero h = refl
  gain_sum (suc m) h =
      omega (arith, gain_sum m (λ i l. h i (omega arith)), through_exit (flows m).main (road.split k m) (h m (omega arith)))

  pub next_conserves : ((i : ℕ) → i ≤ road.links → Drawn (state i) (flows i)) → ((i : ℕ) → i < road.links → road.split k i ≤ 65536)
      → (flows road.links).ramp ≡ 0 → present road (next road k state flows) + gone road k flows ≡ present road state + arrived road k
  unfolding sum
  next_conserves drawn splits ramp =
      omega (arith, moved_sum (nodes road) (λ i h. drawn i (omega arith)), gain_sum road.links splits)

module _ (road : Road) (limits : Limits road) (plan : Plan) (bounded : Bounded road plan) (k : ℕ) (step : k < road.steps) where
  pub plan_draws : (state : ℕ → NodeState) (i : ℕ) → i ≤ road.links → Drawn (state i) (plan_flows road plan k state i)
  unfolding plan_flows junction
  plan_draws state i h =
      record {
        main = le_trans (flows_sent (junction road k state i) (plan.rate k i) (plan.limit k i))
            (sending_le (road.node i).link (state i).vehicles (plan.limit k i) (omega (arith, (bounded k i step h).limit, (link_tops road limits i h).full_speed)));
        ramp = omega (arith, flows_offered (junction road k state i) (plan.rate k i) (plan.limit k i));
      }

  -- from state k to state k + 1 of a plan within bounds
  pub conservation : present road (state_at road plan (suc k)) + gone road k (plan_flows road plan k (state_at road plan k)) ≡ present road (state_at road plan k) + arrived road k
  unfolding state_at
  conservation =
      let state : ℕ → NodeState = state_at road plan k in
      next_conserves road k state (plan_flows road plan k state) (plan_draws state) (λ i h. (limits.demand k i step (omega arith)).split) (exit_ramp_lem road limits plan k state)
