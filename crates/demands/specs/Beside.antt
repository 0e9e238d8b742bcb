-- Beside demand 3, for a corridor and demands within limits: what document 01 says of simulator, checker and normal form, of the one
-- setting that it names, and of the numbers in a record.
use Rattle.std.specs.Prelude.{ℕ, suc, ◌≤◌, ◌<◌, true, List, ◌≡◌, ◌↔◌, length, get_or, leb}
use Rattle.tables.specs.Answer.{Accepted, Refused}
use Rattle.tables.specs.Answer.{unless}
use Rattle.tables.specs.First.{first_place}
use Rattle.road.specs.Corridor.{Flows}
use Rattle.road.specs.Step.{Junction}
use Rattle.road.specs.Run.{cost}
use Rattle.settings.specs.Share.{IsSetting}
use Rattle.lists.specs.Words.{links_of, steps_of, road_of, plan_of, trace_of, plan_length, Width, record_length}
use Rattle.lengths.specs.Lengths.{record_sized}
use Rattle.list_scans.specs.Refusals.{bounds}
use Rattle.simulate.specs.Simulate.{ran_state, simulate_answer, simulated}
use Rattle.convert.specs.Refusals.{judged}
use Rattle.convert.specs.Convert.{converted, normal_form, check_answer, convert_answer, normal_answer}
use Rattle.demands.specs.Demand3.{Valid, SomeValidPlan, recorded, recorded_flows, rate_at, limit_at}

-- "0 ≤ rate ≤ C and 0 ≤ limit ≤ V"
pub record InBounds (corridor demands plan : List ℕ) (k i : ℕ) : Type 0 where
  pub rate : rate_at corridor demands plan k i ≤ ((road_of corridor demands).node i).ramp.capacity
  pub limit : limit_at corridor demands plan k i ≤ ((road_of corridor demands).node i).link.full_speed

-- the queue of node i in state k of a plan, and L of node i
abbrev pub queue_at : List ℕ → List ℕ → List ℕ → ℕ → ℕ → ℕ
queue_at corridor demands plan k i = (ran_state corridor demands plan k i).queue

abbrev pub queue_limit_at : List ℕ → List ℕ → ℕ → ℕ
queue_limit_at corridor demands i = ((road_of corridor demands).node i).ramp.queue_limit

-- by step, then node, the first queue of a plan that ends a step above L is that of node i after step k
pub record FirstQueueAbove (corridor demands plan : List ℕ) (k i : ℕ) : Type 0 where
  pub step : k < steps_of demands
  pub node : i ≤ links_of corridor
  pub above : queue_limit_at corridor demands i < queue_at corridor demands plan (suc k) i
  pub steps_before : (h j : ℕ) → h < k → j ≤ links_of corridor → queue_at corridor demands plan (suc h) j ≤ queue_limit_at corridor demands j
  pub nodes_before : (j : ℕ) → j < i → queue_at corridor demands plan (suc k) j ≤ queue_limit_at corridor demands j

-- simulator and checker
pub record Checking (corridor demands : List ℕ) : Type 0 where
  -- 6 is due exactly where a plan is out of bounds
  pub within_bounds_iff : (plan : List ℕ)
      → (bounds (road_of corridor demands) (plan_of (road_of corridor demands) plan) ≡ Accepted)
      ↔ ((k i : ℕ) → k < steps_of demands → i ≤ links_of corridor → InBounds corridor demands plan k i)
  -- the simulator records every plan within bounds, valid or not
  pub simulated_iff_within_bounds : (plan lent : List ℕ) → record_sized (links_of corridor) (steps_of demands) (length lent) ≡ true
      → (simulate_answer corridor demands plan (length lent) ≡ Accepted)
      ↔ ((length plan ≡ plan_length (links_of corridor) (steps_of demands))
      × (bounds (road_of corridor demands) (plan_of (road_of corridor demands) plan) ≡ Accepted))
  -- the checker accepts the record of every valid plan, of either kind
  pub valid_plans_record_accepted : (width : ℕ) → Width width → (plan : List ℕ) → Valid corridor demands plan → check_answer corridor demands (simulated width corridor demands plan) ≡ Accepted
  -- and a record exactly when some valid plan has it
  pub accepted_iff_some_valid_plan : (words : List ℕ) → (check_answer corridor demands words ≡ Accepted) ↔ SomeValidPlan corridor demands words
  -- it answers as the converter does
  pub checker_answers_as_converter : (words lent : List ℕ) → length lent ≡ plan_length (links_of corridor) (steps_of demands)
      → check_answer corridor demands words ≡ convert_answer corridor demands words (length lent)

-- normal forms; the lent work record and the lent plan have the right lengths
pub record NormalForms (corridor demands : List ℕ) : Type 0 where
  -- a normal form's answer is accepted exactly for valid plans, whatever the list
  pub normal_form_accepted_iff_valid : (plan work lent : List ℕ)
      → record_sized (links_of corridor) (steps_of demands) (length work) ≡ true → length lent ≡ plan_length (links_of corridor) (steps_of demands)
      → (normal_answer corridor demands plan (length work) (length lent) ≡ Accepted) ↔ Valid corridor demands plan
  -- "12, the one of 7..13 that it can meet": of a plan within bounds, the answer of 7 to 13 is that of 12
  pub only_12_is_left : (width : ℕ) → Width width → (plan : List ℕ) → bounds (road_of corridor demands) (plan_of (road_of corridor demands) plan) ≡ Accepted
      → judged width (road_of corridor demands) (simulated width corridor demands plan)
      ≡ first_place (steps_of demands) (suc (links_of corridor))
      (λ k i. unless (leb (queue_at corridor demands plan (suc k) i) (queue_limit_at corridor demands i)) 12)
  -- with its place: 12 is given for the first queue above L, and nothing else is given
  pub refused_iff_first_queue_above : (plan work lent : List ℕ)
      → record_sized (links_of corridor) (steps_of demands) (length work) ≡ true → length lent ≡ plan_length (links_of corridor) (steps_of demands)
      → length plan ≡ plan_length (links_of corridor) (steps_of demands)
      → bounds (road_of corridor demands) (plan_of (road_of corridor demands) plan) ≡ Accepted
      → (number row node : ℕ)
      → (normal_answer corridor demands plan (length work) (length lent) ≡ Refused number row node)
      ↔ ((number ≡ 12) × FirstQueueAbove corridor demands plan row node)
  -- a valid plan's normal form is valid, has the plan's record and is its own normal form
  pub normal_form_is_valid : (width : ℕ) → Width width → (plan : List ℕ) → Valid corridor demands plan → Valid corridor demands (normal_form width corridor demands plan)
  pub normal_form_has_the_record : (width : ℕ) → Width width → (plan : List ℕ) → Valid corridor demands plan
      → simulated width corridor demands (normal_form width corridor demands plan) ≡ simulated width corridor demands plan
  pub normal_form_is_its_own : (width : ℕ) → Width width → (plan : List ℕ) → Valid corridor demands plan
      → normal_form width corridor demands (normal_form width corridor demands plan) ≡ normal_form width corridor demands plan

-- "A node's setting is either full, or held at a limit.": document 01 names one
pub record OneSetting (corridor demands : List ℕ) : Type 0 where
  pub only_setting : (junction : Junction) (flows : Flows) (rate limit rate' limit' : ℕ)
      → IsSetting junction flows rate limit → IsSetting junction flows rate' limit' → (rate ≡ rate') × (limit ≡ limit')
  -- so a plan that sets every node at every step as document 01 says for an accepted record is the converter's
  pub only_plan : (words plan : List ℕ) → check_answer corridor demands words ≡ Accepted → length plan ≡ plan_length (links_of corridor) (steps_of demands)
      → ((k i : ℕ) → k < steps_of demands → i ≤ links_of corridor
      → IsSetting (recorded corridor demands words k i) (recorded_flows corridor demands words k i) (rate_at corridor demands plan k i) (limit_at corridor demands plan k i))
      → plan ≡ converted corridor demands words

-- the numbers in the record of a plan, whatever its words
pub record RecordSizes (width : ℕ) (corridor demands plan : List ℕ) : Type 0 where
  pub length_of_record : length (simulated width corridor demands plan) ≡ record_length width (links_of corridor) (steps_of demands)
  -- n ≤ J
  pub vehicles_within_jam : (k i : ℕ) → k ≤ steps_of demands → i ≤ links_of corridor
      → ((trace_of width (road_of corridor demands) (simulated width corridor demands plan)).state k i).vehicles ≤ ((road_of corridor demands).node i).link.jam
  pub queues_at_most : (k i : ℕ) → k ≤ steps_of demands → i ≤ links_of corridor → queue_at corridor demands plan k i ≤ 228589568
  -- every word is below 2^32
  pub words_fit : (j : ℕ) → get_or (simulated width corridor demands plan) j 0 < 4294967296
  -- the cost is below 2^45
  pub cost_fits : cost (road_of corridor demands) (trace_of width (road_of corridor demands) (simulated width corridor demands plan)) < 35184372088832

-- and in the plan that the converter returns: its words are at most 65,536
pub record PlanSizes (corridor demands words : List ℕ) : Type 0 where
  pub length_of_plan : length (converted corridor demands words) ≡ plan_length (links_of corridor) (steps_of demands)
  pub rates_at_most : check_answer corridor demands words ≡ Accepted → (k i : ℕ) → k < steps_of demands → i ≤ links_of corridor
      → rate_at corridor demands (converted corridor demands words) k i ≤ 65536
  pub limits_at_most : check_answer corridor demands words ≡ Accepted → (k i : ℕ) → k < steps_of demands → i ≤ links_of corridor
      → limit_at corridor demands (converted corridor demands words) k i ≤ 65536

pub record Beside (corridor demands : List ℕ) : Type 0 where
  pub checking : Checking corridor demands
  pub normal_forms : NormalForms corridor demands
  pub one_setting : OneSetting corridor demands
  pub record_sizes : (width : ℕ) → Width width → (plan : List ℕ) → RecordSizes width corridor demands plan
  pub plan_sizes : (words : List ℕ) → PlanSizes corridor demands words
