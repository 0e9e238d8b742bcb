-- Demand 3 in its own words, over lists of words. Records are of kind 3 or of kind 7, and those that are compared of one kind: `width` is how many
-- words a node has in them, and of a proposed list its length tells it.
use Rattle.std.specs.Prelude.{ℕ, ◌≤◌, ◌<◌, List, ◌≡◌, ◌↔◌, length}
use Rattle.tables.specs.Answer.{Accepted}
use Rattle.road.specs.Corridor.{Flows}
use Rattle.road.specs.Step.{Junction}
use Rattle.road.specs.Run.{junction}
use Rattle.settings.specs.Share.{Gives, IsSetting}
use Rattle.lists.specs.Words.{links_of, steps_of, road_of, plan_of, trace_of, plan_length, Width, record_length, width_of}
use Rattle.list_scans.specs.Refusals.{bounds}
use Rattle.simulate.specs.Simulate.{ran_state, simulated}
use Rattle.convert.specs.Convert.{converted, normal_form, convert_answer, normal_answer}

-- "A plan for them is valid when it is within bounds and holds every queue within its limit."
pub record Valid (corridor demands plan : List ℕ) : Type 0 where
  pub sized : length plan ≡ plan_length (links_of corridor) (steps_of demands)
  pub bounded : bounds (road_of corridor demands) (plan_of (road_of corridor demands) plan) ≡ Accepted
  pub queues : (k i : ℕ) → k ≤ steps_of demands → i ≤ links_of corridor
      → (ran_state corridor demands plan k i).queue ≤ ((road_of corridor demands).node i).ramp.queue_limit

-- some valid plan has the proposed record: "that and its own record agree in every word", of the kind that the proposed one is of
abbrev pub SomeValidPlan : List ℕ → List ℕ → List ℕ → Type 0
SomeValidPlan corridor demands words = (plan : List ℕ) × Valid corridor demands plan × (simulated (width_of corridor demands (length words)) corridor demands plan ≡ words)

-- node i at step k of a record
abbrev pub recorded : List ℕ → List ℕ → List ℕ → ℕ → ℕ → Junction
recorded corridor demands words k i = junction (road_of corridor demands) k ((trace_of (width_of corridor demands (length words)) (road_of corridor demands) words).state k) i

-- the flows that it has there
abbrev pub recorded_flows : List ℕ → List ℕ → List ℕ → ℕ → ℕ → Flows
recorded_flows corridor demands words k i = (trace_of (width_of corridor demands (length words)) (road_of corridor demands) words).flows k i

-- rate and limit of a plan at node i and step k
abbrev pub rate_at : List ℕ → List ℕ → List ℕ → ℕ → ℕ → ℕ
rate_at corridor demands plan k i = (plan_of (road_of corridor demands) plan).rate k i

abbrev pub limit_at : List ℕ → List ℕ → List ℕ → ℕ → ℕ → ℕ
limit_at corridor demands plan k i = (plan_of (road_of corridor demands) plan).limit k i

-- the plan that the converter returns for an accepted record
pub record Returned (corridor demands words : List ℕ) : Type 0 where
  -- "and the returned plan is valid,"
  pub returned_plan_is_valid : Valid corridor demands (converted corridor demands words)
  -- "has it too"
  pub returned_plan_has_the_record : simulated (width_of corridor demands (length words)) corridor demands (converted corridor demands words) ≡ words
  -- "and sets every node at every step as document 01 says, full or held."
  pub returned_plan_settings : (k i : ℕ) → k < steps_of demands → i ≤ links_of corridor
      → IsSetting (recorded corridor demands words k i) (recorded_flows corridor demands words k i)
      (rate_at corridor demands (converted corridor demands words) k i)
      (limit_at corridor demands (converted corridor demands words) k i)
  -- "It posts full speed on a link at a step exactly when some rate from 0 to the ramp's capacity gives that step's flows at full speed."
  pub full_speed_iff_some_rate : (k i : ℕ) → k < steps_of demands → i ≤ links_of corridor
      → (limit_at corridor demands (converted corridor demands words) k i ≡ ((road_of corridor demands).node i).link.full_speed)
      ↔ ((rate : ℕ)
      × (rate ≤ ((road_of corridor demands).node i).ramp.capacity)
      × Gives (recorded corridor demands words k i) (recorded_flows corridor demands words k i) rate)

-- "Take any corridor, demand series and start within limits."
pub record Demand3 (corridor demands : List ℕ) : Type 0 where
  -- "For any two valid plans, the normal forms are equal in every word exactly when the simulator's two records are equal in every word."
  pub same_normal_form_iff_same_record : (width : ℕ) → Width width → (plan other : List ℕ) → Valid corridor demands plan → Valid corridor demands other
      → (normal_form width corridor demands plan ≡ normal_form width corridor demands other) ↔ (simulated width corridor demands plan ≡ simulated width corridor demands other)
  -- "A valid plan's normal form is the converter's plan for its record."
  pub normal_form_is_the_converted_record : (width : ℕ) → Width width → (plan : List ℕ) → Valid corridor demands plan
      → (normal_answer corridor demands plan (record_length width (links_of corridor) (steps_of demands)) (plan_length (links_of corridor) (steps_of demands)) ≡ Accepted)
      × (convert_answer corridor demands (simulated width corridor demands plan) (plan_length (links_of corridor) (steps_of demands)) ≡ Accepted)
      × (normal_form width corridor demands plan ≡ converted corridor demands (simulated width corridor demands plan))
  -- "Whatever record is proposed, the converter returns a plan exactly when some valid plan has that record,"
  pub returned_iff_some_valid_plan : (words lent : List ℕ) → length lent ≡ plan_length (links_of corridor) (steps_of demands)
      → (convert_answer corridor demands words (length lent) ≡ Accepted) ↔ SomeValidPlan corridor demands words
  -- "and the returned plan .."
  pub returned : (words lent : List ℕ) → length lent ≡ plan_length (links_of corridor) (steps_of demands)
      → convert_answer corridor demands words (length lent) ≡ Accepted → Returned corridor demands words
