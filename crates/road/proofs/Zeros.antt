-- The fixed zeros of a run within limits: n and f of node 0, l and r of node N, and the exits of both and of state K.
use Prim.Native.Nat.{ℕ, zero, suc, ◌≤◌}
use mathlib.Core.Path.{◌≡◌, refl, ap}
use native.Mathlib.Omega.{arith}
use Rattle.road.specs.Corridor.{NodeState, Road, Plan, Flows}
use Rattle.road.specs.Step.{exit, moved}
use Rattle.road.specs.Run.{junction, inflow, next, plan_flows, state_at, no_flow, run}
use Rattle.road.specs.Limits.{Limits}
use Rattle.road.proofs.Rules.{exit_le, exit_of_none, exit_unsplit, flows_sent, flows_offered}
use Rattle.road.proofs.Runs.{run_last, run_each, entry_sends}

module _ (road : Road) (limits : Limits road) (plan : Plan) where
  -- ---- f of node 0 and r of node N, from any state

  pub entry_main_lem : (k : ℕ) (state : ℕ → NodeState) → (plan_flows road plan k state 0).main ≡ 0
  unfolding plan_flows junction
  entry_main_lem k state =
      omega (arith, flows_sent (junction road k state 0) (plan.rate k 0) (plan.limit k 0), entry_sends road limits (state 0).vehicles (plan.limit k 0))

  pub exit_ramp_lem : (k : ℕ) (state : ℕ → NodeState) → (plan_flows road plan k state road.links).ramp ≡ 0
  unfolding plan_flows junction
  exit_ramp_lem k state =
      let n = road.links in
      omega (arith, flows_offered (junction road k state n) (plan.rate k n) (plan.limit k n), limits.exit.capacity)

  -- ---- states and flows of a run

  pub run_entry_vehicles : (k : ℕ) → (state_at road plan k 0).vehicles ≡ 0
  unfolding state_at next moved inflow
  run_entry_vehicles zero = omega (arith, (limits.start 0 (omega arith)).vehicles, limits.entry.jam)
  run_entry_vehicles (suc k) = omega (arith, run_entry_vehicles k)

  pub run_exit_queue : (k : ℕ) → k ≤ road.steps → (state_at road plan k road.links).queue ≡ 0
  unfolding state_at next moved
  run_exit_queue zero h = omega (arith, (limits.start road.links (omega arith)).queue, limits.exit.queue_limit)
  run_exit_queue (suc k) h = omega (arith, run_exit_queue k (omega arith), (limits.demand k road.links h (omega arith)).exit_arrivals refl)

  pub run_entry_main : (k : ℕ) → k ≤ road.steps → ((run road plan).flows k 0).main ≡ 0
  unfolding no_flow
  run_entry_main k h = run_each (λ (x : Flows). x.main ≡ 0) road plan k 0 h refl (λ g. entry_main_lem k (state_at road plan k))

  pub run_exit_ramp : (k : ℕ) → k ≤ road.steps → ((run road plan).flows k road.links).ramp ≡ 0
  unfolding no_flow
  run_exit_ramp k h = run_each (λ (x : Flows). x.ramp ≡ 0) road plan k road.links h refl (λ g. exit_ramp_lem k (state_at road plan k))

  -- ---- what leaves by an off-ramp

  pub run_last_exit : (i : ℕ) → exit ((run road plan).flows road.steps i).main (road.split road.steps i) ≡ 0
  unfolding no_flow
  run_last_exit i = exit_of_none _ _ (ap (λ (x : Flows). x.main) (run_last road plan i))

  pub run_entry_exit : (k : ℕ) → k ≤ road.steps → exit ((run road plan).flows k 0).main (road.split k 0) ≡ 0
  run_entry_exit k h = exit_of_none _ _ (run_entry_main k h)

  pub run_end_exit : (k : ℕ) → k ≤ road.steps → exit ((run road plan).flows k road.links).main (road.split k road.links) ≡ 0
  unfolding no_flow
  run_end_exit k h =
      run_each (λ (x : Flows). exit x.main (road.split k road.links) ≡ 0) road plan k road.links h (exit_of_none 0 _ refl)
      (λ g. exit_unsplit _ _ ((limits.demand k road.links g (omega arith)).exit_split refl))

  -- no more leaves by an off-ramp than comes to it
  pub run_exit_le : (k i : ℕ) → k ≤ road.steps → i ≤ road.links → exit ((run road plan).flows k i).main (road.split k i) ≤ ((run road plan).flows k i).main
  unfolding no_flow
  run_exit_le k i h hi =
      run_each (λ (x : Flows). exit x.main (road.split k i) ≤ x.main) road plan k i h (omega (arith, exit_of_none 0 (road.split k i) refl))
      (λ g. exit_le _ _ (limits.demand k i g hi).split)
