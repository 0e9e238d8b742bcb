-- How large the numbers of a run get within limits, whatever the plan.
use Prim.Native.Nat.{ℕ, zero, suc, ◌+◌, ◌*◌, ◌≤◌, ◌<◌}
use native.Mathlib.Nat.{mul-le-mul_left, mul-le-mul_right}
use native.Mathlib.Omega.{arith}
use Rattle.tables.specs.Sum.{sum}
use Rattle.tables.proofs.Sum.{sum_bound}
use Rattle.road.specs.Corridor.{NodeState, Road, Plan, Flows, nodes}
use Rattle.road.specs.Step.{moved}
use Rattle.road.specs.Run.{junction, next, plan_flows, state_at, no_flow, run, cost}
use Rattle.road.specs.Limits.{Limits}
use Rattle.road.proofs.Rules.{sending_capacity, flows_sent, flows_offered}
use Rattle.road.proofs.Runs.{link_tops, run_each, run_jam}

-- f and r of a node
pub record FlowsFit (flows : Flows) : Type 0 where
  pub main : flows.main ≤ 65536
  pub ramp : flows.ramp ≤ 65536

-- n and l of a node; the greatest L, 134,217,728, and 1,440 steps of 65,536 arrivals make 228,589,568
pub record StateFits (state : NodeState) : Type 0 where
  pub vehicles : state.vehicles ≤ 65536
  pub queue : state.queue ≤ 228589568

module _ (road : Road) (limits : Limits road) (plan : Plan) where
  -- no more leaves a link or a ramp than its capacity
  pub plan_flows_fit : (k : ℕ) (state : ℕ → NodeState) (i : ℕ) → i ≤ road.links → FlowsFit (plan_flows road plan k state i)
  unfolding plan_flows junction
  plan_flows_fit k state i h =
      record {
        main = omega (
          arith,
          flows_sent (junction road k state i) (plan.rate k i) (plan.limit k i),
          sending_capacity (road.node i).link (state i).vehicles (plan.limit k i) (link_tops road limits i h).dropped_capacity,
          (link_tops road limits i h).capacity,
        );
        ramp = omega (arith, flows_offered (junction road k state i) (plan.rate k i) (plan.limit k i), (limits.ramp i h).capacity);
      }

  pub run_flows_fit : (k i : ℕ) → k ≤ road.steps → i ≤ road.links → FlowsFit ((run road plan).flows k i)
  unfolding no_flow
  run_flows_fit k i hk hi =
      run_each FlowsFit road plan k i hk (record { main = omega arith; ramp = omega arith }) (λ h. plan_flows_fit k (state_at road plan k) i hi)

  -- a queue grows by at most 65,536 a step
  pub run_queue : (k i : ℕ) → k ≤ road.steps → i ≤ road.links → (state_at road plan k i).queue ≤ (road.node i).ramp.queue_limit + 65536 * k
  unfolding state_at next moved
  run_queue zero i hk hi = omega (arith, (limits.start i hi).queue)
  run_queue (suc k) i hk hi = omega (arith, run_queue k i (omega arith) hi, (limits.demand k i hk hi).arrivals)

  pub run_state_fits : (k i : ℕ) → k ≤ road.steps → i ≤ road.links → StateFits (state_at road plan k i)
  run_state_fits k i hk hi =
      record {
        vehicles = omega (arith, run_jam road limits plan k i hk hi, (link_tops road limits i hi).jam);
        queue = omega (arith, run_queue k i hk hi, (limits.ramp i hi).queue_limit, limits.steps);
      }

  -- the cost is below 2^45
  pub run_cost_lem : cost road (run road plan) < 35184372088832
  unfolding cost run
  run_cost_lem =
      let load : ℕ → ℕ → ℕ = λ k i. (state_at road plan (suc k) i).vehicles + (state_at road plan (suc k) i).queue in
      let row : (k : ℕ) → k < road.steps → sum (nodes road) (load k) ≤ nodes road * 228655104 =
      λ k hk. sum_bound (nodes road) 228655104 (load k) (λ i hi. let s = run_state_fits (suc k) i hk (omega arith) in omega arith) in
      let n : nodes road ≤ 65 = omega (arith, limits.links) in
      let m : nodes road * 228655104 ≤ 65 * 228655104 = mul-le-mul_right 228655104 n in
      omega (
        arith,
        sum_bound road.steps (nodes road * 228655104) (λ k. sum (nodes road) (load k)) row,
        mul-le-mul_left road.steps m,
        limits.steps,
      )
