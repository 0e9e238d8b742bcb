-- Beside demand 3: simulator and checker, normal forms, the one setting, and the numbers of a record.
use Prim.Native.Nat.{ℕ, suc, ◌≤◌, ◌<◌}
use mathlib.Core.Bool.{true}
use mathlib.Core.List.{List}
use mathlib.Core.Path.{◌≡◌, sym, ap, ◌∙◌}
use mathlib.Core.Logic.{◌↔◌}
use native.Mathlib.Omega.{arith}
use lib.ListN.{length}
use lib.Dec.{leb, eqb}
use borrow.Author.Tests.{eq-eqb, leb-false, lt-leb}
use Rattle.tables.specs.Answer.{sized}
use Rattle.tables.specs.Answer.{Accepted, Refused}
use Rattle.tables.specs.First.{first_place}
use Rattle.tables.proofs.Answers.{or_else_accepts, unless_some, sized_iff}
use Rattle.tables.proofs.First.{FirstFault, first_place_refuses, first_place_same}
use Rattle.road.specs.Corridor.{NodeState, Road, Plan, Trace}
use Rattle.road.specs.Run.{junction, run}
use Rattle.road.specs.Limits.{Limits}
use Rattle.road.proofs.Runs.{link_tops, run_jam}
use Rattle.road.proofs.Same.{SameTraces, cost_same}
use Rattle.road.proofs.Sizes.{run_state_fits, run_cost_lem}
use Rattle.settings.proofs.Settings.{named_once}
use Rattle.lists.specs.Words.{links_of, steps_of, road_of, plan_of, plan_length, Width, trace_of, width_of}
use Rattle.lengths.specs.Lengths.{record_sized}
use Rattle.list_scans.specs.Refusals.{bounds, limits}
use Rattle.faults.proofs.Tests.{eq_holds}
use Rattle.lengths.proofs.Sizes.{record_wide}
use Rattle.list_scans.proofs.Limits.{bounds_iff}
use Rattle.lists.proofs.Words.{plan_same, plan_written_lem, record_read}
use Rattle.lists.proofs.Fits.{record_fits_lem}
use Rattle.simulate.specs.Simulate.{simulate_answer, simulated}
use Rattle.convert.specs.Refusals.{judged}
use Rattle.convert.specs.Convert.{plan_for, converted_by, converted, normal_form, check_answer, normal_answer}
use Rattle.record_faults.proofs.Records.{queue_fault, queue_iff}
use Rattle.convert.proofs.Facts.{judged_queue}
use Rattle.convert.proofs.Plans.{plan_named}
use Rattle.convert.proofs.Normal.{simulated_fits}
use Rattle.convert.proofs.Records.{record_costs, record_exits_kept}
use Rattle.demands.specs.Beside.{InBounds, queue_at, queue_limit_at, FirstQueueAbove, Checking, NormalForms, OneSetting, RecordSizes, PlanSizes, Beside}
use Rattle.demands.proofs.Demand3Laws.{road_limits, simulate_answer_lem, convert_answer_lem, normal_answer_lem, queue_is, simulated_moves, valid_accepted, converted_length, accepted_keeps, returned_is_valid, accepted_iff_valid, normal_valid, normal_has_the_record, normal_accepted_iff}

module _ (corridor demands : List ℕ) (within : limits corridor demands ≡ Accepted) where
  -- ---- simulator and checker

  within_bounds : (plan : List ℕ) → (bounds (road_of corridor demands) (plan_of (road_of corridor demands) plan) ≡ Accepted)
      ↔ ((k i : ℕ) → k < steps_of demands → i ≤ links_of corridor → InBounds corridor demands plan k i)
  unfolding road_of
  within_bounds plan =
      let r = bounds_iff (road_of corridor demands) (plan_of (road_of corridor demands) plan) in (
        λ e k i hk hi. record { rate = (r.0 e k i hk hi).rate; limit = (r.0 e k i hk hi).limit },
        λ b. r.1 (λ k i hk hi. record { rate = (b k i hk hi).rate; limit = (b k i hk hi).limit }),
      )

  simulated_iff : (plan lent : List ℕ) → record_sized (links_of corridor) (steps_of demands) (length lent) ≡ true
      → (simulate_answer corridor demands plan (length lent) ≡ Accepted)
      ↔ ((length plan ≡ plan_length (links_of corridor) (steps_of demands)) × (bounds (road_of corridor demands) (plan_of (road_of corridor demands) plan) ≡ Accepted))
  simulated_iff plan lent e =
      let n : ℕ = plan_length (links_of corridor) (steps_of demands) in
      let r = or_else_accepts (sized (eqb (length plan) n)) (bounds (road_of corridor demands) (plan_of (road_of corridor demands) plan)) in
      let s = simulate_answer_lem corridor demands within plan (length lent) e in (
        λ a. let (x, y) = r.0 (sym s ∙ a) in ((eq_holds (length plan) n).0 ((sized_iff _).0 x), y),
        λ (x, y). s ∙ r.1 ((sized_iff _).1 ((eq_holds (length plan) n).1 x), y),
      )

  checking : Checking corridor demands
  checking =
      record {
        within_bounds_iff = within_bounds;
        simulated_iff_within_bounds = simulated_iff;
        valid_plans_record_accepted = valid_accepted corridor demands within;
        accepted_iff_some_valid_plan = accepted_iff_valid corridor demands within;
        checker_answers_as_converter = λ words lent e. sym (convert_answer_lem corridor demands within words (length lent) e);
      }

  -- ---- normal forms

  pub only_12 : (width : ℕ) → Width width → (plan : List ℕ) → bounds (road_of corridor demands) (plan_of (road_of corridor demands) plan) ≡ Accepted
      → judged width (road_of corridor demands) (simulated width corridor demands plan)
      ≡ first_place (steps_of demands) (suc (links_of corridor)) (λ k i. queue_fault (queue_limit_at corridor demands i) (queue_at corridor demands plan (suc k) i))
  unfolding simulated road_of
  only_12 width wide plan b =
      let r : Road = road_of corridor demands in
      judged_queue width r (simulated width corridor demands plan) (simulated_moves corridor demands within width wide plan b)
      (record_exits_kept width wide r (road_limits corridor demands within) (plan_of r plan)) (record_costs width r (run r (plan_of r plan)) wide)
      ∙ first_place_same (steps_of demands) (suc (links_of corridor)) _ _
      (λ k i hk hi. ap (queue_fault (queue_limit_at corridor demands i)) (queue_is corridor demands within width wide plan (suc k) i hk (omega arith)))

  first_above : (plan : List ℕ) (number row node : ℕ)
      → FirstFault (steps_of demands) (suc (links_of corridor)) (λ k i. queue_fault (queue_limit_at corridor demands i) (queue_at corridor demands plan (suc k) i)) number row node
      ↔ ((number ≡ 12) × FirstQueueAbove corridor demands plan row node)
  first_above plan number row node = (to, λ (e, f). from e f)
    where
      queue : ℕ → ℕ → ℕ
      queue k i = queue_at corridor demands plan (suc k) i

      top : ℕ → ℕ
      top i = queue_limit_at corridor demands i

      to : FirstFault (steps_of demands) (suc (links_of corridor)) (λ k i. queue_fault (top i) (queue k i)) number row node
          → (number ≡ 12) × FirstQueueAbove corridor demands plan row node
      to f =
          let (e, q) = (unless_some (leb (queue row node) (top node)) 12 number f.here.some).0 f.here.is in (
            sym q,
            record {
              step = f.row;
              node = omega (arith, f.here.node);
              above = leb-false (queue row node) (top node) e;
              steps_before = λ h j hh hj. (queue_iff (top j) (queue h j)).0 (f.before h j hh (omega arith));
              nodes_before = λ j hj. (queue_iff (top j) (queue row j)).0 (f.here.before j hj);
            },
          )

      from : number ≡ 12 → FirstQueueAbove corridor demands plan row node
          → FirstFault (steps_of demands) (suc (links_of corridor)) (λ k i. queue_fault (top i) (queue k i)) number row node
      from e f =
          let some : number ≡ 0 → ⊥ = λ z. omega arith in
          record {
            row = f.step;
            here =
                record {
                  node = omega (arith, f.node);
                  is = (unless_some (leb (queue row node) (top node)) 12 number some).1 (lt-leb (queue row node) (top node) f.above, sym e);
                  some = some;
                  before = λ j hj. (queue_iff (top j) (queue row j)).1 (f.nodes_before j hj);
                };
            before = λ h j hh hj. (queue_iff (top j) (queue h j)).1 (f.steps_before h j hh (omega arith));
          }

  refused_iff : (plan work lent : List ℕ)
      → record_sized (links_of corridor) (steps_of demands) (length work) ≡ true → length lent ≡ plan_length (links_of corridor) (steps_of demands)
      → length plan ≡ plan_length (links_of corridor) (steps_of demands) → bounds (road_of corridor demands) (plan_of (road_of corridor demands) plan) ≡ Accepted
      → (number row node : ℕ)
      → (normal_answer corridor demands plan (length work) (length lent) ≡ Refused number row node) ↔ ((number ≡ 12) × FirstQueueAbove corridor demands plan row node)
  refused_iff plan work lent hw hl hp b number row node =
      let fault : ℕ → ℕ → ℕ = λ k i. queue_fault (queue_limit_at corridor demands i) (queue_at corridor demands plan (suc k) i) in
      let left : normal_answer corridor demands plan (length work) (length lent) ≡ first_place (steps_of demands) (suc (links_of corridor)) fault =
      normal_answer_lem corridor demands within plan (length work) (length lent) hw hl ∙ simp (eq-eqb (length plan) _ hp, b) (only_12 (width_of corridor demands (length work)) (record_wide (links_of corridor) (steps_of demands) (length work)) plan b) in
      let r = first_place_refuses (steps_of demands) (suc (links_of corridor)) fault number row node in
      let s = first_above plan number row node in
      (λ e. s.0 (r.0 (sym left ∙ e)), λ h. left ∙ r.1 (s.1 h))

  normal_forms_lem : NormalForms corridor demands
  unfolding normal_form
  normal_forms_lem =
      record {
        normal_form_accepted_iff_valid = λ plan work lent hw hl. normal_accepted_iff corridor demands within plan (length work) (length lent) hw hl;
        only_12_is_left = only_12;
        refused_iff_first_queue_above = refused_iff;
        normal_form_is_valid = normal_valid corridor demands within;
        normal_form_has_the_record = normal_has_the_record corridor demands within;
        normal_form_is_its_own = λ width wide plan v. ap (converted corridor demands) (normal_has_the_record corridor demands within width wide plan v);
      }

  -- ---- the one setting

  only_setting : OneSetting corridor demands
  unfolding converted_by road_of
  only_setting =
      record {
        only_setting = named_once;
        only_plan = λ words plan a fits named.
            let r : Road = road_of corridor demands in
            let trace : Trace = trace_of (width_of corridor demands (length words)) r words in
            plan_written_lem r plan fits
            ∙ plan_same r (plan_of r plan) (plan_for r trace)
            (λ k i hk hi.
            let (rate, limit) = named_once (junction r k (trace.state k) i) (trace.flows k i) _ _ _ _ (named k i hk hi)
            (plan_named r (road_limits corridor demands within) trace (accepted_keeps corridor demands within words a).moves k i hk hi) in
            record { rate = rate; limit = limit });
      }

  -- ---- the numbers of a record

  record_sizes_lem : (width : ℕ) → Width width → (plan : List ℕ) → RecordSizes width corridor demands plan
  unfolding simulated road_of run
  record_sizes_lem width wide plan =
      let r : Road = road_of corridor demands in
      let p : Plan = plan_of r plan in
      let lim : Limits r = road_limits corridor demands within in
      let same : SameTraces r (trace_of width r (simulated width corridor demands plan)) (run r p) = record_read width r (run r p) wide in
      record {
        length_of_record = simulated_fits width corridor demands plan;
        vehicles_within_jam = λ k i hk hi. omega (arith, ap (λ (s : NodeState). s.vehicles) (same k i hk hi).state, run_jam r lim p k i hk hi);
        queues_at_most = λ k i hk hi. omega (arith, (run_state_fits r lim p k i hk hi).queue);
        words_fit = record_fits_lem width r lim p;
        cost_fits = omega (arith, cost_same r _ _ same, run_cost_lem r lim p);
      }

  plan_sizes_lem : (words : List ℕ) → PlanSizes corridor demands words
  unfolding road_of
  plan_sizes_lem words =
      record {
        length_of_plan = converted_length corridor demands within words;
        rates_at_most = λ a k i hk hi. omega (arith, (in_bounds a k i hk hi).rate, ((road_limits corridor demands within).ramp i hi).capacity);
        limits_at_most = λ a k i hk hi.
            omega (arith, (in_bounds a k i hk hi).limit, (link_tops (road_of corridor demands) (road_limits corridor demands within) i hi).full_speed);
      }
    where
      in_bounds : check_answer corridor demands words ≡ Accepted
          → (k i : ℕ) → k < steps_of demands → i ≤ links_of corridor → InBounds corridor demands (converted corridor demands words) k i
      in_bounds a = (within_bounds (converted corridor demands words)).0 (returned_is_valid corridor demands within words a).bounded

pub beside : (corridor demands : List ℕ) → limits corridor demands ≡ Accepted → Beside corridor demands
beside corridor demands within =
    record {
      checking = checking corridor demands within;
      normal_forms = normal_forms_lem corridor demands within;
      one_setting = only_setting corridor demands within;
      record_sizes = record_sizes_lem corridor demands within;
      plan_sizes = plan_sizes_lem corridor demands within;
    }
