-- The laws of demand 3, over lists of words; the demand itself is in Demand3, so that an edit of a law here is told from one that cannot be read.
use Prim.Native.Nat.{ℕ, suc, ◌≤◌, ◌<◌}
use mathlib.Core.Bool.{true, and-true}
use mathlib.Core.List.{List}
use mathlib.Core.Path.{◌≡◌, sym, ap, subst, ◌∙◌}
use mathlib.Core.Logic.{◌↔◌}
use native.Mathlib.Omega.{arith}
use lib.ListN.{length}
use lib.Dec.{eqb}
use borrow.Author.Tests.{eq-eqb}
use Rattle.tables.specs.Answer.{Accepted}
use Rattle.tables.specs.Answer.{or_else, sized}
use Rattle.tables.proofs.Answers.{or_else_accepts, sized_iff}
use Rattle.road.specs.Corridor.{NodeState, Road}
use Rattle.road.specs.Run.{junction, run}
use Rattle.road.specs.Limits.{Limits}
use Rattle.settings.specs.Share.{Gives, IsSetting}
use Rattle.settings.proofs.Settings.{full_speed_iff}
use Rattle.lists.specs.Words.{links_of, steps_of, road_of, plan_of, plan_length, Width, trace_of, record_length, width_of}
use Rattle.lengths.specs.Lengths.{record_sized, sizes}
use Rattle.list_scans.specs.Refusals.{ranges, bounds, limits}
use Rattle.faults.proofs.Tests.{eq_holds}
use Rattle.lengths.proofs.Sizes.{record_wide, record_sized_iff}
use Rattle.list_scans.proofs.Limits.{bounds_iff, limits_iff}
use Rattle.lists.proofs.Words.{plan_length_lem, record_read}
use Rattle.simulate.specs.Simulate.{simulate_sizes, simulate_answer, ran_state, simulated}
use Rattle.convert.specs.Refusals.{judged}
use Rattle.convert.specs.Convert.{plan_for, converted_by, converted, normal_form, check_answer, convert_answer, normal_refusal, normal_answer}
use Rattle.convert.proofs.Facts.{Moves, Keeps, judged_iff}
use Rattle.convert.proofs.Normal.{simulated_width, simulated_sized}
use Rattle.convert.proofs.Plans.{trace_limits}
use Rattle.convert.proofs.Records.{record_costs, record_moves, record_exits_kept, queues_within, returned_named, returned_bounded, returned_record}
use Rattle.demands.specs.Demand3.{Valid, SomeValidPlan, recorded, recorded_flows, rate_at, limit_at, Returned}

-- "Take any corridor, demand series and start within limits."
module _ (corridor demands : List ℕ) (within : limits corridor demands ≡ Accepted) where
  abbrev road : Road
  road = road_of corridor demands

  pub road_limits : Limits road
  road_limits = ((limits_iff corridor demands).0 within).road

  -- ---- answers: what is left of them within limits

  sizes_right : sizes corridor demands ≡ true
  unfolding limits
  sizes_right = (sized_iff (sizes corridor demands)).0 ((or_else_accepts (sized (sizes corridor demands)) (ranges road)).0 within).0

  ranges_right : ranges road ≡ Accepted
  unfolding limits
  ranges_right = ((or_else_accepts (sized (sizes corridor demands)) (ranges road)).0 within).1

  pub simulate_answer_lem : (plan : List ℕ) (room : ℕ) → record_sized (links_of corridor) (steps_of demands) room ≡ true
      → simulate_answer corridor demands plan room
      ≡ or_else (sized (eqb (length plan) (plan_length (links_of corridor) (steps_of demands)))) (bounds road (plan_of road plan))
  unfolding simulate_answer simulate_sizes
  simulate_answer_lem plan room e = simp (sizes_right, ranges_right, e, and-true)

  pub check_answer_lem : (words : List ℕ)
      → check_answer corridor demands words ≡ or_else (sized (record_sized (links_of corridor) (steps_of demands) (length words))) (judged (width_of corridor demands (length words)) road words)
  unfolding check_answer
  check_answer_lem words = simp (sizes_right, ranges_right)

  pub convert_answer_lem : (words : List ℕ) (room : ℕ) → room ≡ plan_length (links_of corridor) (steps_of demands)
      → convert_answer corridor demands words room ≡ check_answer corridor demands words
  unfolding convert_answer check_answer
  convert_answer_lem words room e = simp (eq-eqb room _ e, and-true)

  pub normal_answer_lem : (plan : List ℕ) (work room : ℕ) → record_sized (links_of corridor) (steps_of demands) work ≡ true → room ≡ plan_length (links_of corridor) (steps_of demands)
      → normal_answer corridor demands plan work room
      ≡ or_else (or_else (sized (eqb (length plan) (plan_length (links_of corridor) (steps_of demands)))) (bounds road (plan_of road plan)))
      (judged (width_of corridor demands work) road (simulated (width_of corridor demands work) corridor demands plan))
  unfolding normal_answer normal_refusal
  normal_answer_lem plan work room e f = simp (sizes_right, ranges_right, e, eq-eqb room _ f, and-true)

  -- a record is accepted exactly where it has the right length and keeps 7 to 13
  pub accepted_iff : (words : List ℕ)
      → (check_answer corridor demands words ≡ Accepted)
      ↔ ((length words ≡ record_length (width_of corridor demands (length words)) (links_of corridor) (steps_of demands)) × Keeps (width_of corridor demands (length words)) road words)
  accepted_iff words =
      let w : ℕ = width_of corridor demands (length words) in
      let fits = record_sized_iff (links_of corridor) (steps_of demands) (length words) in
      let r = or_else_accepts (sized (record_sized (links_of corridor) (steps_of demands) (length words))) (judged w road words) in (
        λ e.
            let (a, b) = r.0 (sym (check_answer_lem words) ∙ e) in
            (fits.0 ((sized_iff _).0 a), (judged_iff w road words).0 b),
        λ h. check_answer_lem words ∙ r.1 ((sized_iff _).1 (fits.1 h.0), (judged_iff w road words).1 h.1),
      )

  -- ---- the record of a plan, of either kind

  module _ (width : ℕ) (wide : Width width) where
    pub simulated_moves : (plan : List ℕ) → bounds road (plan_of road plan) ≡ Accepted → Moves road (trace_of width road (simulated width corridor demands plan))
    unfolding simulated
    simulated_moves plan b = record_moves width wide road road_limits (plan_of road plan) ((bounds_iff road (plan_of road plan)).0 b)

    -- its queues are those of the run
    pub queue_is : (plan : List ℕ) (k i : ℕ) → k ≤ steps_of demands → i ≤ links_of corridor
        → ((trace_of width road (simulated width corridor demands plan)).state k i).queue ≡ (ran_state corridor demands plan k i).queue
    unfolding simulated road_of run
    queue_is plan k i hk hi = ap (λ (s : NodeState). s.queue) (record_read width road (run road (plan_of road plan)) wide k i hk hi).state

    pub valid_keeps : (plan : List ℕ) → Valid corridor demands plan → Keeps width road (simulated width corridor demands plan)
    unfolding simulated road_of
    valid_keeps plan v =
        record {
          moves = simulated_moves plan v.bounded;
          exits = record_exits_kept width wide road road_limits (plan_of road plan);
          queues = λ k i hk hi. omega (arith, queue_is plan (suc k) i hk hi, v.queues (suc k) i hk hi);
          costs = record_costs width road (run road (plan_of road plan)) wide;
        }

    pub valid_accepted : (plan : List ℕ) → Valid corridor demands plan → check_answer corridor demands (simulated width corridor demands plan) ≡ Accepted
    valid_accepted plan v =
        (accepted_iff (simulated width corridor demands plan)).1 (
          (record_sized_iff (links_of corridor) (steps_of demands) _).0 (simulated_sized width corridor demands plan wide),
          subst (λ (w : ℕ). Keeps w road (simulated width corridor demands plan)) (sym (simulated_width width corridor demands plan wide)) (valid_keeps plan v),
        )

    -- within bounds, with a record that keeps 7 to 13, is valid
    pub kept_valid : (plan : List ℕ) → length plan ≡ plan_length (links_of corridor) (steps_of demands) → bounds road (plan_of road plan) ≡ Accepted
        → Keeps width road (simulated width corridor demands plan) → Valid corridor demands plan
    unfolding road_of
    kept_valid plan fits b keeps =
        record {
          sized = fits;
          bounded = b;
          queues = λ k i hk hi.
              omega (
                arith,
                queue_is plan k i hk hi,
                queues_within width wide road road_limits (trace_of width road (simulated width corridor demands plan)) keeps.moves keeps.queues k i hk hi,
              );
        }

  -- ---- the plan that the converter returns for an accepted record

  pub converted_length : (words : List ℕ) → length (converted corridor demands words) ≡ plan_length (links_of corridor) (steps_of demands)
  unfolding converted_by road_of
  converted_length words = plan_length_lem road (plan_for road (trace_of (width_of corridor demands (length words)) road words))

  module _ (words : List ℕ) (accepted : check_answer corridor demands words ≡ Accepted) where
    abbrev own : ℕ
    own = width_of corridor demands (length words)

    own_wide : Width own
    own_wide = record_wide (links_of corridor) (steps_of demands) (length words)

    pub accepted_keeps : Keeps (width_of corridor demands (length words)) road words
    accepted_keeps = ((accepted_iff words).0 accepted).1

    pub returned_has_the_record : simulated (width_of corridor demands (length words)) corridor demands (converted corridor demands words) ≡ words
    unfolding simulated converted_by road_of
    returned_has_the_record = returned_record own own_wide road road_limits words accepted_keeps ((accepted_iff words).0 accepted).0

    pub returned_is_valid : Valid corridor demands (converted corridor demands words)
    unfolding converted_by
    returned_is_valid =
        kept_valid own own_wide (converted corridor demands words) (converted_length words)
        ((bounds_iff road (plan_of road (converted corridor demands words))).1 (returned_bounded own own_wide road road_limits words accepted_keeps))
        (subst (λ (x : List ℕ). Keeps own road x) (sym returned_has_the_record) accepted_keeps)

    pub returned_settings : (k i : ℕ) → k < steps_of demands → i ≤ links_of corridor
        → IsSetting (recorded corridor demands words k i) (recorded_flows corridor demands words k i)
        (rate_at corridor demands (converted corridor demands words) k i)
        (limit_at corridor demands (converted corridor demands words) k i)
    unfolding converted_by road_of
    returned_settings k i hk hi = returned_named own own_wide road road_limits words accepted_keeps k i hk hi

    pub returned_full_speed : (k i : ℕ) → k < steps_of demands → i ≤ links_of corridor
        → (limit_at corridor demands (converted corridor demands words) k i ≡ (road.node i).link.full_speed)
        ↔ ((rate : ℕ) × (rate ≤ (road.node i).ramp.capacity) × Gives (recorded corridor demands words k i) (recorded_flows corridor demands words k i) rate)
    unfolding road_of junction
    returned_full_speed k i hk hi =
        full_speed_iff (recorded corridor demands words k i) (trace_limits road road_limits (trace_of own road words) accepted_keeps.moves k i hk hi)
        (recorded_flows corridor demands words k i) (accepted_keeps.moves.steps k i hk hi).permitted _ _ (returned_settings k i hk hi)

    pub returned_plan : Returned corridor demands words
    returned_plan =
        record {
          returned_plan_is_valid = returned_is_valid;
          returned_plan_has_the_record = returned_has_the_record;
          returned_plan_settings = returned_settings;
          full_speed_iff_some_rate = returned_full_speed;
        }

  pub accepted_iff_valid : (words : List ℕ) → (check_answer corridor demands words ≡ Accepted) ↔ SomeValidPlan corridor demands words
  accepted_iff_valid words = (
    λ e. (converted corridor demands words, returned_is_valid words e, returned_has_the_record words e),
    λ (plan, v, e).
        subst (λ (x : List ℕ). check_answer corridor demands x ≡ Accepted) e
        (valid_accepted (width_of corridor demands (length words)) (record_wide (links_of corridor) (steps_of demands) (length words)) plan v),
  )

  -- ---- the normal form of a valid plan, with a work record of either kind

  module _ (width : ℕ) (wide : Width width) where
    pub normal_valid : (plan : List ℕ) → Valid corridor demands plan → Valid corridor demands (normal_form width corridor demands plan)
    unfolding normal_form
    normal_valid plan v = returned_is_valid (simulated width corridor demands plan) (valid_accepted width wide plan v)

    pub normal_has_the_record : (plan : List ℕ) → Valid corridor demands plan → simulated width corridor demands (normal_form width corridor demands plan) ≡ simulated width corridor demands plan
    unfolding normal_form
    normal_has_the_record plan v =
        ap (λ (w : ℕ). simulated w corridor demands (converted corridor demands (simulated width corridor demands plan))) (sym (simulated_width width corridor demands plan wide))
        ∙ returned_has_the_record (simulated width corridor demands plan) (valid_accepted width wide plan v)

    pub normal_same_iff : (plan other : List ℕ) → Valid corridor demands plan → Valid corridor demands other
        → (normal_form width corridor demands plan ≡ normal_form width corridor demands other) ↔ (simulated width corridor demands plan ≡ simulated width corridor demands other)
    unfolding normal_form
    normal_same_iff plan other v w = (
      λ e. sym (normal_has_the_record plan v) ∙ ap (simulated width corridor demands) e ∙ normal_has_the_record other w,
      λ e. ap (converted corridor demands) e,
    )

  -- its answer is accepted exactly for valid plans
  pub normal_accepted_iff : (plan : List ℕ) (work room : ℕ) → record_sized (links_of corridor) (steps_of demands) work ≡ true → room ≡ plan_length (links_of corridor) (steps_of demands)
      → (normal_answer corridor demands plan work room ≡ Accepted) ↔ Valid corridor demands plan
  normal_accepted_iff plan work room hw hr =
      let n : ℕ = plan_length (links_of corridor) (steps_of demands) in
      let width : ℕ = width_of corridor demands work in
      let wide : Width (width_of corridor demands work) = record_wide (links_of corridor) (steps_of demands) work in
      let r = or_else_accepts (or_else (sized (eqb (length plan) n)) (bounds road (plan_of road plan))) (judged width road (simulated width corridor demands plan)) in
      let q = or_else_accepts (sized (eqb (length plan) n)) (bounds road (plan_of road plan)) in (
        λ e.
            let (a, b) = r.0 (sym (normal_answer_lem plan work room hw hr) ∙ e) in
            let (x, y) = q.0 a in
            kept_valid width wide plan ((eq_holds (length plan) n).0 ((sized_iff _).0 x)) y ((judged_iff width road (simulated width corridor demands plan)).0 b),
        λ v.
            normal_answer_lem plan work room hw hr
            ∙ r.1 (
              q.1 ((sized_iff _).1 ((eq_holds (length plan) n).1 v.sized), v.bounded),
              (judged_iff width road (simulated width corridor demands plan)).1 (valid_keeps width wide plan v),
            ),
      )
