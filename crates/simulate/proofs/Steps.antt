-- A step on its rows is a step of the run: from state k to the record's row k and to state k + 1.
use Prim.Native.Nat.{ℕ, zero, suc, ◌+◌, ◌-◌, ◌*◌, ◌≤◌, ◌<◌}
use mathlib.Core.Bool.{cond}
use mathlib.Core.List.{List, []}
use mathlib.Core.Path.{◌≡◌, refl, ap, ◌∙◌}
use native.Mathlib.Omega.{arith}
use lib.Dec.{ltb}
use lib.ListN.{get_or, take, drop}
use Rattle.tables.proofs.Part.{part_at}
use Rattle.tables.proofs.Sum.{sum_same}
use Rattle.road.specs.Corridor.{Link, NodeState, Flows, Road, Plan}
use Rattle.road.specs.Step.{Junction, exit, receiving, flows_with, outflow, moved}
use Rattle.road.specs.Run.{supply, junction, inflow, next, plan_flows, state_at, state_cost}
use Rattle.road.specs.Limits.{Limits, Bounded}
use Rattle.road.proofs.Runs.{link_tops, run_jam}
use Rattle.road.proofs.Same.{junction_same, next_same}
use Rattle.road.proofs.Sizes.{run_state_fits}
use Rattle.lists.specs.Words.{links_of, steps_of, node_at, demands_word, road_of, plan_of}
use Rattle.lists.specs.Rows.{state_in, step_road}
use Rattle.link_table.specs.Table.{table_of}
use Rattle.link_table.proofs.Table.{link_told, junction_told}
use Rattle.simulate_rows.specs.Rows.{start_row, row_flows, flow_row, passed_in, record_row, next_in, next_row, StepKept}
use Rattle.simulate.specs.Simulate.{state_row, step_row, ran_cost}
use Rattle.simulate_rows.proofs.Rows.{rest_state, row_same}
use Rattle.simulate_rows.proofs.Steps.{flows_told}

module _ (corridor demands : List ℕ) (k : ℕ) where
  -- row k of the demands, as the code has it
  pub record DemandRow (demand : List ℕ) : Type 0 where
    pub arrivals : (i : ℕ) → i ≤ links_of corridor → get_or demand (i * 2 + 0) 0 ≡ (road_of corridor demands).arrivals k i
    pub split : (i : ℕ) → i ≤ links_of corridor → get_or demand (i * 2 + 1) 0 ≡ (road_of corridor demands).split k i

  -- d is where the row starts, and w its width
  pub demand_row_lem : (d w : ℕ) → d ≡ 1 + k * w → w ≡ suc (links_of corridor) * 2 → DemandRow (take (d + w - d) (drop d demands))
  unfolding road_of
  demand_row_lem d w e q = record { arrivals = λ i h. word i 0 h (omega arith); split = λ i h. word i 1 h (omega arith) }
    where
      word : (i j : ℕ) → i ≤ links_of corridor → j < 2 → get_or (take (d + w - d) (drop d demands)) (i * 2 + j) 0 ≡ demands_word demands (links_of corridor) k i j
      word i j h b =
          part_at d w demands (i * 2 + j) 0 (omega arith)
          ∙ let t : d + (i * 2 + j) ≡ 1 + (k * w + (i * 2 + j)) = omega arith in
          ap (λ (n : ℕ). get_or demands n 0) t
          ∙ ap (λ (n : ℕ). get_or demands (1 + (k * n + (i * 2 + j))) 0) q

  module _ (demand : List ℕ) (row : DemandRow demand) (downstream : ℕ) where
    -- one step's demands, with what may pass beyond link N in it, say of a node what the whole demands say at step k
    pub step_junction : downstream ≡ (road_of corridor demands).downstream k → (state : ℕ → NodeState) (i : ℕ) → i ≤ links_of corridor
        → junction (step_road corridor demand downstream) 0 state i ≡ junction (road_of corridor demands) k state i
    unfolding junction supply step_road road_of
    step_junction d state i h =
        λ z.
        record {
          link = (node_at corridor i).link;
          ramp = (node_at corridor i).ramp;
          state = state i;
          split = row.split i h z;
          supply = cond (ltb i (links_of corridor)) (receiving (node_at corridor (suc i)).link (state (suc i)).vehicles) (d z);
        }

    step_inflow : (lane : List ℕ) (flows : ℕ → Flows) (i : ℕ) → i ≤ links_of corridor → inflow (step_road lane demand downstream) 0 flows i ≡ inflow (road_of corridor demands) k flows i
    unfolding inflow step_road
    step_inflow lane flows zero h = refl
    step_inflow lane flows (suc j) h = ap (λ (b : ℕ). outflow (flows j) b) (row.split j (omega arith))

    -- rule 6 asks nothing of the corridor, nor of what may pass beyond it: `lane` and `downstream` are any
    pub step_next : (lane : List ℕ) (state : ℕ → NodeState) (flows : ℕ → Flows) (i : ℕ) → i ≤ links_of corridor
        → next (step_road lane demand downstream) 0 state flows i ≡ next (road_of corridor demands) k state flows i
    unfolding next step_road
    step_next lane state flows i h =
        ap (λ (x : ℕ). moved (state i) x (get_or demand (i * 2 + 0) 0) (flows i)) (step_inflow lane flows i h)
        ∙ ap (λ (x : ℕ). moved (state i) (inflow (road_of corridor demands) k flows i) x (flows i)) (row.arrivals i h)

module _ (corridor demands words : List ℕ) (k : ℕ) where
  abbrev road : Road
  road = road_of corridor demands

  abbrev plan : Plan
  plan = plan_of (road_of corridor demands) words

  -- row k of the demands and of the plan, as the code lends them
  pub record StepRows (demand rates : List ℕ) : Type 0 where
    pub demand_row_lem : DemandRow corridor demands k demand
    pub rate : (i : ℕ) → i ≤ links_of corridor → get_or rates (i * 2 + 0) 0 ≡ (plan_of (road_of corridor demands) words).rate k i
    pub limit : (i : ℕ) → i ≤ links_of corridor → get_or rates (i * 2 + 1) 0 ≡ (plan_of (road_of corridor demands) words).limit k i

  -- rows of w words, which start at d and at p
  pub step_rows : (w d p : ℕ) → w ≡ suc (links_of corridor) * 2 → d ≡ 1 + k * w → p ≡ k * w
      → StepRows (take (d + w - d) (drop d demands)) (take (p + w - p) (drop p words))
  unfolding road_of plan_of
  step_rows w d p width e q =
      record {
        demand_row_lem = demand_row_lem corridor demands k d w e width;
        rate = λ i h. rate i 0 h (omega arith);
        limit = λ i h. rate i 1 h (omega arith);
      }
    where
      rate : (i j : ℕ) → i ≤ links_of corridor → j < 2 → get_or (take (p + w - p) (drop p words)) (i * 2 + j) 0 ≡ get_or words (k * (suc (links_of corridor) * 2) + (i * 2 + j)) 0
      rate i j h b =
          part_at p w words (i * 2 + j) 0 (omega arith)
          ∙ ap (λ (n : ℕ). get_or words (n + (i * 2 + j)) 0) q
          ∙ ap (λ (n : ℕ). get_or words (k * n + (i * 2 + j)) 0) width

  -- the state that the run keeps
  state_told : (i : ℕ) → i ≤ links_of corridor → state_in 2 (state_row 2 corridor demands words k) i ≡ state_at road plan k i
  unfolding state_row
  state_told i h = rest_state (links_of corridor) (state_at road plan k) i h

  module _ (table demand rates : List ℕ) (tabled : table ≡ table_of corridor (links_of corridor)) (rows : StepRows demand rates) where
    -- within limits and bounds state k keeps what a step asks
    pub step_kept : Limits road → Bounded road plan → k < steps_of demands → (i : ℕ) → i ≤ links_of corridor → StepKept table demand rates (state_row 2 corridor demands words k) i
    unfolding road_of
    step_kept limits bounded hk i hi =
        let n : (state_in 2 (state_row 2 corridor demands words k) i).vehicles ≡ (state_at road plan k i).vehicles = ap (λ (x : NodeState). x.vehicles) (state_told i hi) in
        let l : (state_in 2 (state_row 2 corridor demands words k) i).queue ≡ (state_at road plan k i).queue = ap (λ (x : NodeState). x.queue) (state_told i hi) in
        let fits = run_state_fits road limits plan k i (omega arith) hi in
        record {
          jam = omega (arith, run_jam road limits plan k i (omega arith) hi, ap (λ (x : Link). x.jam) (link_told corridor (links_of corridor) table tabled i hi));
          vehicles = omega (arith, fits.vehicles);
          queue = omega (arith, fits.queue);
          arrivals = omega (arith, rows.demand_row_lem.arrivals i hi, (limits.demand k i hk hi).arrivals);
          split = omega (arith, rows.demand_row_lem.split i hi, (limits.demand k i hk hi).split);
          limit = omega (arith, rows.limit i hi, (bounded k i hk hi).limit, (link_tops road limits i hi).full_speed);
        }

    module _ (downstream : ℕ) (d : downstream ≡ road.downstream k) (passed : List ℕ)
        (e : passed ≡ flow_row table (links_of corridor) demand downstream rates (state_row 2 corridor demands words k)) where
      -- the flows from state k, as the code has them
      step_flows : (i : ℕ) → i ≤ links_of corridor → passed_in passed i ≡ plan_flows road plan k (state_at road plan k) i
      unfolding row_flows plan_flows road_of
      step_flows i h =
          flows_told table (links_of corridor) demand downstream rates (state_row 2 corridor demands words k) passed e i h
          ∙ ap (λ (x : Junction). flows_with x (get_or rates (i * 2 + 0) 0) (get_or rates (i * 2 + 1) 0))
          (junction_told corridor (links_of corridor) table tabled demand downstream (state_in 2 (state_row 2 corridor demands words k)) refl i h
          ∙ step_junction corridor demands k demand rows.demand_row_lem downstream d (state_in 2 (state_row 2 corridor demands words k)) i h
          ∙ junction_same road k (state_in 2 (state_row 2 corridor demands words k)) (state_at road plan k) i state_told h)
          ∙ ap (λ (c : ℕ). flows_with (junction road k (state_at road plan k) i) c (get_or rates (i * 2 + 1) 0)) (rows.rate i h)
          ∙ ap (λ (v : ℕ). flows_with (junction road k (state_at road plan k) i) (plan.rate k i) v) (rows.limit i h)

      pub record_row_is : (width : ℕ) → record_row width (links_of corridor) demand (state_row 2 corridor demands words k) passed ≡ step_row width corridor demands words k
      unfolding record_row step_row road_of
      record_row_is width =
          row_same width (links_of corridor) _ _ _ _ _ _ state_told step_flows (λ i h z. exit (step_flows i h z).main (rows.demand_row_lem.split i h z))

      next_is : (i : ℕ) → i ≤ links_of corridor → next_in demand (state_row 2 corridor demands words k) passed i ≡ state_at road plan (suc k) i
      unfolding next_in state_at road_of
      next_is i h =
          step_next corridor demands k demand rows.demand_row_lem 0 [] (state_in 2 (state_row 2 corridor demands words k)) (passed_in passed) i h
          ∙ next_same road k (state_in 2 (state_row 2 corridor demands words k)) (state_at road plan k) (passed_in passed) (plan_flows road plan k (state_at road plan k)) i state_told step_flows h

      pub next_row_is : next_row (links_of corridor) demand (state_row 2 corridor demands words k) passed ≡ state_row 2 corridor demands words (suc k)
      unfolding next_row state_row
      next_row_is = row_same 2 (links_of corridor) _ _ _ _ _ _ next_is (λ i h. refl) (λ i h. refl)

      pub next_cost_is : state_cost (suc (links_of corridor)) (next_in demand (state_row 2 corridor demands words k) passed) ≡ ran_cost corridor demands words (suc k)
      unfolding ran_cost
      next_cost_is = sum_same (suc (links_of corridor)) _ _ (λ i h. ap (λ (x : NodeState). x.vehicles + x.queue) (next_is i (omega arith)))

-- the corridor's start is state 0
pub start_row_is : (corridor demands words : List ℕ) → start_row corridor (links_of corridor) ≡ state_row 2 corridor demands words 0
unfolding start_row state_at road_of state_row
start_row_is corridor demands words = refl
