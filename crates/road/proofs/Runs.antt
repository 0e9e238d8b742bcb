-- Laws of a run: nodes 0 and N, where document 01's rules have a case of their own and the definitions have none, and what every state keeps.
use Prim.Native.Nat.{ℕ, zero, suc, ◌≤◌, ◌<◌, min}
use mathlib.Core.Path.{◌≡◌, refl, sym, ap, ap₂, subst, ◌∙◌}
use mathlib.Core.Logic.{⊎_elim}
use native.Mathlib.Omega.{arith}
use borrow.Author.Tests.{lt-ltb, le-ltb}
use Rattle.tables.proofs.Numbers.{le_or_lt}
use Rattle.road.specs.Corridor.{Link, NodeState, Road, Plan, Flows}
use Rattle.road.specs.Step.{sending, offer, receiving, merge, flows_with, outflow, moved}
use Rattle.road.specs.Run.{FreeBeyond, supply, junction, inflow, next, plan_flows, state_at, no_flow, run}
use Rattle.road.specs.Limits.{Limits, JunctionLimits}
use Rattle.road.proofs.Rules.{sending_capacity, through_le, offer_le, receiving_le, merge_free, merge_alone, flows_fit_lem}

-- ---- supply

pub supply_inside : (road : Road) (k : ℕ) (state : ℕ → NodeState) (i : ℕ) → i < road.links
    → supply road k state i ≡ receiving (road.node (suc i)).link (state (suc i)).vehicles
unfolding supply
supply_inside road k state i h = simp (lt-ltb i road.links h)

pub supply_last : (road : Road) (k : ℕ) (state : ℕ → NodeState) → supply road k state road.links ≡ road.downstream k
unfolding supply
supply_last road k state = simp (le-ltb road.links road.links (omega arith))

-- ---- the flows of a run

pub run_flows : (road : Road) (plan : Plan) (k i : ℕ) → k < road.steps → (run road plan).flows k i ≡ plan_flows road plan k (state_at road plan k) i
unfolding run
run_flows road plan k i h = simp (lt-ltb k road.steps h)

pub run_last : (road : Road) (plan : Plan) (i : ℕ) → (run road plan).flows road.steps i ≡ no_flow
unfolding run
run_last road plan i = simp (le-ltb road.steps road.steps (omega arith))

-- what holds of no flow and of each step's flows holds of those of states 0..K
pub run_each : (P : Flows → Type 0) (road : Road) (plan : Plan) (k i : ℕ) → k ≤ road.steps → P no_flow
    → (k < road.steps → P (plan_flows road plan k (state_at road plan k) i)) → P ((run road plan).flows k i)
run_each P road plan k i hk none step =
    ⊎_elim
    (λ (h : road.steps ≤ k).
    let e : k ≡ road.steps = omega arith in
    subst P (sym (ap (λ (j : ℕ). (run road plan).flows j i) e ∙ run_last road plan i)) none)
    (λ (h : k < road.steps). subst P (sym (run_flows road plan k i h)) (step h))
    (le_or_lt road.steps k)

-- what a plan passes on at a node fits
pub plan_fits_lem : (road : Road) (plan : Plan) (k : ℕ) (state : ℕ → NodeState) (i : ℕ) → road.split k i ≤ 65536
    → outflow (plan_flows road plan k state i) (road.split k i) ≤ supply road k state i
unfolding plan_flows junction
plan_fits_lem road plan k state i h = flows_fit_lem (junction road k state i) (plan.rate k i) (plan.limit k i) h

-- ---- within limits

-- the upper ends of a link's ranges, which hold at node 0 too
pub record LinkTops (link : Link) : Type 0 where
  pub capacity : link.capacity ≤ 65536
  pub full_speed : link.full_speed ≤ 65536
  pub wave_speed : link.wave_speed ≤ 65536
  pub jam : link.jam ≤ 65536
  pub dropped_capacity : link.dropped_capacity ≤ link.capacity

module _ (road : Road) (limits : Limits road) where
  pub link_tops : (i : ℕ) → i ≤ road.links → LinkTops (road.node i).link
  link_tops zero h =
      let a = limits.entry in
      record { capacity = omega arith; full_speed = omega arith; wave_speed = omega arith; jam = omega arith; dropped_capacity = omega arith }
  link_tops (suc j) h =
      let a = limits.link (suc j) (omega arith) h in
      record { capacity = omega arith; full_speed = omega arith; wave_speed = omega arith; jam = omega arith; dropped_capacity = omega arith }

  pub junction_limits : (k i : ℕ) (state : ℕ → NodeState) → k < road.steps → i ≤ road.links → (state i).vehicles ≤ (road.node i).link.jam
      → JunctionLimits (junction road k state i)
  unfolding junction
  junction_limits k i state hk hi n =
      let tops = link_tops i hi in
      record { vehicles = omega arith; full_speed = tops.full_speed; split = (limits.demand k i hk hi).split }

  -- rule 1 at node 0: D = 0
  pub entry_sends : (vehicles limit : ℕ) → sending (road.node 0).link vehicles limit ≡ 0
  entry_sends vehicles limit = omega (arith, sending_capacity (road.node 0).link vehicles limit (link_tops 0 (omega arith)).dropped_capacity, limits.entry.capacity)

  -- rule 3 at node N: d = 0
  pub exit_offers : (queue rate : ℕ) → offer (road.node road.links).ramp queue rate ≡ 0
  exit_offers queue rate = omega (arith, offer_le (road.node road.links).ramp queue rate, limits.exit.capacity)

  -- where traffic past link N is free, what leaves node N always fits, so T(f) + r ≤ S asks nothing there
  pub exit_fits : (k : ℕ) (state : ℕ → NodeState) (flows : Flows) → FreeBeyond road k → flows.ramp ≡ 0 → flows.main ≤ (road.node road.links).link.capacity
      → outflow flows (road.split k road.links) ≤ supply road k state road.links
  unfolding outflow
  exit_fits k state flows free ramp main =
      let n = road.links in
      omega (arith, supply_last road k state, through_le flows.main (road.split k n), (link_tops n (omega arith)).capacity)

  -- rule 5 at node N where traffic past link N is free: f = D, r = d
  pub exit_free : (k : ℕ) (state : ℕ → NodeState) (rate limit : ℕ) → FreeBeyond road k
      → flows_with (junction road k state road.links) rate limit
      ≡ record {
        main = sending (road.node road.links).link (state road.links).vehicles limit;
        ramp = offer (road.node road.links).ramp (state road.links).queue rate;
      }
  unfolding flows_with junction
  exit_free k state rate limit free =
      let n = road.links in
      merge_free _ _ (road.split k n) (supply road k state n) _ refl refl
      (exit_fits k state _ free (exit_offers (state n).queue rate) (sending_capacity (road.node n).link (state n).vehicles limit (link_tops n (omega arith)).dropped_capacity))

  -- rule 5 at node N: nothing is rounded away, f = min(D, S) and r = 0
  pub exit_passes : (k : ℕ) (state : ℕ → NodeState) (rate limit : ℕ) → k < road.steps
      → flows_with (junction road k state road.links) rate limit
      ≡ record { main = min (sending (road.node road.links).link (state road.links).vehicles limit) (road.downstream k); ramp = 0 }
  unfolding flows_with junction
  exit_passes k state rate limit h =
      let n = road.links in
      let sent = sending (road.node n).link (state n).vehicles limit in
      ap₂ (λ (e s : ℕ). merge sent e (road.split k n) s) (exit_offers (state n).queue rate) (supply_last road k state)
      ∙ ap (λ (b : ℕ). merge sent 0 b (road.downstream k)) ((limits.demand k n h (omega arith)).exit_split refl)
      ∙ merge_alone sent (road.downstream k)

  -- where what each node passes on fits, vehicles that are within 0..J stay so
  pub next_jam : (k : ℕ) (state : ℕ → NodeState) (flows : ℕ → Flows)
      → ((i : ℕ) → i < road.links → outflow (flows i) (road.split k i) ≤ supply road k state i)
      → (i : ℕ) → i ≤ road.links → (state i).vehicles ≤ (road.node i).link.jam → (next road k state flows i).vehicles ≤ (road.node i).link.jam
  unfolding next moved inflow
  next_jam k state flows fits zero h n = omega arith
  next_jam k state flows fits (suc j) h n =
      omega (
        arith,
        fits j h,
        supply_inside road k state j h,
        receiving_le (road.node (suc j)).link (state (suc j)).vehicles (link_tops (suc j) h).wave_speed,
      )

  -- in every state of a run, vehicles are within 0..J
  pub run_jam : (plan : Plan) (k i : ℕ) → k ≤ road.steps → i ≤ road.links → (state_at road plan k i).vehicles ≤ (road.node i).link.jam
  unfolding state_at
  run_jam plan zero i hk hi = (limits.start i hi).vehicles
  run_jam plan (suc k) i hk hi =
      next_jam k (state_at road plan k) (plan_flows road plan k (state_at road plan k)) fits i hi (run_jam plan k i (omega arith) hi)
    where
      fits : (j : ℕ) → j < road.links → outflow (plan_flows road plan k (state_at road plan k) j) (road.split k j) ≤ supply road k (state_at road plan k) j
      fits j h = plan_fits_lem road plan k (state_at road plan k) j (limits.demand k j hk (omega arith)).split
