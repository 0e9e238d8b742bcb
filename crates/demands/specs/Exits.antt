-- Request 04 beside the demands: what the exits of a record of kind 7 are, and that the kind of the work record has no part in a normal form.
use Rattle.std.specs.Prelude.{ℕ, ◌≤◌, ◌<◌, ◌-◌, true, List, [], ◌∷◌, ◌≡◌, length}
use Rattle.tables.specs.Answer.{Accepted, Refused}
use Rattle.road.specs.Step.{through}
use Rattle.lists.specs.Words.{links_of, steps_of, road_of, Width, width_of}
use Rattle.lengths.specs.Lengths.{record_sized}
use Rattle.simulate.specs.B.{corridor, demands, plan}
use Rattle.simulate.specs.Simulate.{simulate_answer, simulated}
use Rattle.convert.specs.Convert.{normal_form, check_answer, normal_answer, normal_left}
use Rattle.demands.specs.Demand2.{exit_word}
use Rattle.demands.specs.Demand3.{recorded_flows}
use Rattle.demands.specs.Cases.{plan_with, Converts}
use Rattle.demands.specs.Completed.{completed_record}

-- for a corridor and demands within limits
pub record Exits (corridor demands : List ℕ) : Type 0 where
  -- "zero at nodes 0 and N and in state K": in the record of every plan, whatever its words
  pub entry_is_zero : (plan : List ℕ) (k : ℕ) → k ≤ steps_of demands → exit_word (road_of corridor demands) (simulated 5 corridor demands plan) k 0 ≡ 0
  pub end_is_zero : (plan : List ℕ) (k : ℕ) → k ≤ steps_of demands → exit_word (road_of corridor demands) (simulated 5 corridor demands plan) k (links_of corridor) ≡ 0
  pub last_is_zero : (plan : List ℕ) (i : ℕ) → i ≤ links_of corridor → exit_word (road_of corridor demands) (simulated 5 corridor demands plan) (steps_of demands) i ≡ 0
  -- an accepted record of kind 7 has as each exit f less its through part
  pub accepted_are_the_rest : (words : List ℕ) → width_of corridor demands (length words) ≡ 5 → check_answer corridor demands words ≡ Accepted
      → (k i : ℕ) → k < steps_of demands → i ≤ links_of corridor
      → exit_word (road_of corridor demands) words k i
      ≡ (recorded_flows corridor demands words k i).main - through (recorded_flows corridor demands words k i).main ((road_of corridor demands).split k i)

-- for every corridor, demands and plan, whatever their words: `work` and `other` are the lengths of lent work records
pub record EitherKind (corridor demands plan : List ℕ) : Type 0 where
  -- the simulator's record of kind 7 is its record of kind 3 with the right exits
  pub record_completed : simulated 5 corridor demands plan ≡ completed_record (road_of corridor demands) (simulated 4 corridor demands plan)
  -- the normal form and its answer do not depend on the work record's kind
  pub same_normal_form : (width other : ℕ) → Width width → Width other → normal_form width corridor demands plan ≡ normal_form other corridor demands plan
  pub same_answer : (work other room : ℕ) → record_sized (links_of corridor) (steps_of demands) work ≡ true → record_sized (links_of corridor) (steps_of demands) other ≡ true
      → normal_answer corridor demands plan work room ≡ normal_answer corridor demands plan other room
  pub same_plan : (work other : ℕ) (lent : List ℕ) → record_sized (links_of corridor) (steps_of demands) work ≡ true → record_sized (links_of corridor) (steps_of demands) other ≡ true
      → normal_left corridor demands plan work lent ≡ normal_left corridor demands plan other lent

-- ---- worked: B of document 01, b of node 1 a quarter

-- a record of kind 7 of B whose node 1 has flows f and r in step 0 and this exit, and these n of links 1 and 2, l of ramps 0 and 1 and cost after it
abbrev pub exit_record : ℕ → ℕ → ℕ → ℕ → ℕ → ℕ → ℕ → ℕ → List ℕ
exit_record main ramp off first second entry queue total =
    0 ∷ 0 ∷ 0 ∷ 0 ∷ 0
    ∷ 200 ∷ 50 ∷ main ∷ ramp ∷ off
    ∷ 200 ∷ 0 ∷ 100 ∷ 0 ∷ 0
    ∷ 0 ∷ entry ∷ 0 ∷ 0 ∷ 0
    ∷ first ∷ queue ∷ 0 ∷ 0 ∷ 0
    ∷ second ∷ 0 ∷ 0 ∷ 0 ∷ 0
    ∷ total ∷ 0
    ∷ []

-- that of case 1, with these exits where zero is fixed: of nodes 0 and 2 in step 0, and of node 1 in state 1
abbrev pub fixed_record : ℕ → ℕ → ℕ → List ℕ
fixed_record entry end last =
    0 ∷ 0 ∷ 0 ∷ 0 ∷ entry
    ∷ 200 ∷ 50 ∷ 80 ∷ 40 ∷ 20
    ∷ 200 ∷ 0 ∷ 100 ∷ 0 ∷ end
    ∷ 0 ∷ 30 ∷ 0 ∷ 0 ∷ 0
    ∷ 120 ∷ 20 ∷ 0 ∷ 0 ∷ last
    ∷ 200 ∷ 0 ∷ 0 ∷ 0 ∷ 0
    ∷ 370 ∷ 0
    ∷ []

-- B's corridor with a queue limit of 50 at node 1
abbrev pub short_corridor : List ℕ
short_corridor =
    2
    ∷ 10 ∷ 0 ∷ 0 ∷ 0 ∷ 0 ∷ 100 ∷ 1000 ∷ 0 ∷ 0
    ∷ 20 ∷ 100 ∷ 32768 ∷ 32768 ∷ 400 ∷ 60 ∷ 50 ∷ 200 ∷ 50
    ∷ 30 ∷ 100 ∷ 32768 ∷ 32768 ∷ 400 ∷ 0 ∷ 0 ∷ 200 ∷ 0
    ∷ []

pub record ExitCases : Type 0 where
  -- case 1 in kind 7: 80 × 16,384 / 65,536 = 20 leave at node 1; it has the plan of case 2
  pub simulates : (simulate_answer corridor demands plan 32 ≡ Accepted) × (simulated 5 corridor demands plan ≡ exit_record 80 40 20 120 200 30 20 370)
  pub converts : Converts corridor (exit_record 80 40 20 120 200 30 20 370) (plan_with 50 32768)
  -- one more, and one less, is refusal 11 at its step and node
  pub more : check_answer corridor demands (exit_record 80 40 21 120 200 30 20 370) ≡ Refused 11 0 1
  pub less : check_answer corridor demands (exit_record 80 40 19 120 200 30 20 370) ≡ Refused 11 0 1
  -- of 99 a quarter is 24.75: 24 leave, and 75 go through
  pub rounds_down : check_answer corridor demands (exit_record 99 25 24 101 200 30 35 366) ≡ Accepted
  pub not_up : check_answer corridor demands (exit_record 99 25 25 101 200 30 35 366) ≡ Refused 11 0 1
  -- just after 10: the r of case 5, or one above its queue of 50, is refused first
  pub after_9 : check_answer corridor demands (exit_record 100 26 24 100 201 30 34 365) ≡ Refused 9 0 1
  pub after_10 : check_answer corridor demands (exit_record 0 51 1 200 151 30 9 390) ≡ Refused 10 0 1
  -- before 12: no one enters at node 1, whose queue grows to 60
  pub before_12 : check_answer short_corridor demands (exit_record 80 0 21 120 160 30 60 370) ≡ Refused 11 0 1
  pub then_12 : check_answer short_corridor demands (exit_record 80 0 20 120 160 30 60 370) ≡ Refused 12 0 1
  -- where zero is fixed, refusal 7, by state and then node
  pub entry : check_answer corridor demands (fixed_record 1 0 0) ≡ Refused 7 0 0
  pub end : check_answer corridor demands (fixed_record 0 1 0) ≡ Refused 7 0 2
  pub last : check_answer corridor demands (fixed_record 0 0 1) ≡ Refused 7 1 1
  -- 31 and 33 words are no record's
  pub one_short : simulate_answer corridor demands plan 31 ≡ Refused 1 0 0
  pub one_long : simulate_answer corridor demands plan 33 ≡ Refused 1 0 0
