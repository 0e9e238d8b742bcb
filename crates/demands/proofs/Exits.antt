-- Request 04 beside the demands is proved: the exits by the laws of a run and of the checks, the normal form by the trace that both kinds tell.
use Prim.Native.Nat.{ℕ, zero, suc, ◌≤◌, ◌<◌}
use mathlib.Core.Bool.{Bool, true, ◌&&◌}
use mathlib.Core.List.{List}
use mathlib.Core.Logic.{⊎_elim}
use mathlib.Core.Path.{◌≡◌, refl, sym, ap, ap₂, ◌∙◌}
use native.Mathlib.Nat.{add-zero}
use native.Mathlib.Omega.{arith}
use borrow.Author.Tests.{lt-ltb, le-ltb}
use lib.Dec.{eqb}
use lib.ListN.{length, get_or}
use Rattle.tables.specs.Answer.{Answer}
use Rattle.tables.specs.Answer.{Accepted}
use Rattle.tables.specs.Answer.{or_else, sized, left}
use Rattle.tables.specs.Grid.{place}
use Rattle.tables.proofs.Answers.{or_else_accepts, sized_iff}
use Rattle.tables.proofs.Numbers.{le_or_lt}
use Rattle.tables.proofs.Tests.{and_iff}
use Rattle.road.specs.Corridor.{Flows, Road, Trace, nodes}
use Rattle.road.specs.Step.{exit}
use Rattle.road.specs.Run.{no_flow, run}
use Rattle.road.proofs.Rules.{exit_of_none}
use Rattle.road.proofs.Runs.{run_last}
use Rattle.road.proofs.Zeros.{run_last_exit, run_entry_exit, run_end_exit}
use Rattle.lists.specs.Words.{links_of, steps_of, road_of, plan_of, plan_words, Width, trace_of, exit_at, node_word, trace_word, record_words, trace_length, plan_length, width_of}
use Rattle.lengths.specs.Lengths.{record_sized, sizes}
use Rattle.lengths.proofs.Sizes.{record_wide}
use Rattle.list_scans.specs.Refusals.{ranges, bounds, plan_bounds, limits}
use Rattle.lists.proofs.Words.{record_at, record_read, record_cost, record_is, right_said}
use Rattle.simulate.specs.Simulate.{simulated}
use Rattle.convert.specs.Convert.{plan_for, converted_by, normal_form, normal_refusal, normal_answer, normal_left}
use Rattle.convert.specs.Refusals.{judged}
use Rattle.convert.proofs.Normal.{simulated_width}
use Rattle.files.proofs.Turns.{second_same}
use Rattle.demands.specs.Completed.{completed_exit, completed_record_word, completed_record}
use Rattle.demands.specs.Exits.{Exits, EitherKind}
use Rattle.demands.proofs.Demand2.{exit_at_lem, rest_of}
use Rattle.demands.proofs.Demand3Laws.{road_limits, accepted_keeps}
use Rattle.demands.proofs.Beside.{only_12}
use Rattle.demands.proofs.CompletedRecord.{traces_plan, full_length, full_at, full_cost}

-- ---- the exits, within limits

pub exits : (corridor demands : List ℕ) → limits corridor demands ≡ Accepted → Exits corridor demands
unfolding simulated road_of
exits corridor demands within =
    let road : Road = road_of corridor demands in
    let lim = road_limits corridor demands within in
    record {
      entry_is_zero = λ plan k hk. exit_at_lem road (plan_of road plan) 5 refl k 0 hk (omega arith) ∙ run_entry_exit road lim (plan_of road plan) k hk;
      end_is_zero = λ plan k hk. exit_at_lem road (plan_of road plan) 5 refl k (links_of corridor) hk (omega arith) ∙ run_end_exit road lim (plan_of road plan) k hk;
      last_is_zero = λ plan i hi. exit_at_lem road (plan_of road plan) 5 refl (steps_of demands) i (omega arith) hi ∙ run_last_exit road lim (plan_of road plan) i;
      accepted_are_the_rest = λ words w a k i hk hi.
          ap (λ (c : ℕ). get_or words (place c (nodes road) k i 4) 0) (sym w)
          ∙ right_said (width_of corridor demands (length words)) _ _ (omega arith) ((accepted_keeps corridor demands within words a).exits.right k i hk hi)
          ∙ rest_of _ (road.split k i) (lim.demand k i hk hi).split;
    }

-- ---- either kind of work record

module _ (corridor demands plan : List ℕ) where
  abbrev road : Road
  road = road_of corridor demands

  abbrev ran : Trace
  ran = run road (plan_of road plan)

  last_exit : (k i : ℕ) → k ≡ road.steps → exit_at road ran k i ≡ 0
  unfolding no_flow
  last_exit k i e = exit_of_none _ (road.split k i) (ap (λ (x : Flows). x.main) (ap (λ (j : ℕ). ran.flows j i) e ∙ run_last road (plan_of road plan) i))

  -- the simulator's record of kind 7
  completed_word_lem : (k i q : ℕ) → k ≤ road.steps → i ≤ road.links → q < 5 → get_or (completed_record road (record_words 4 road ran)) (place 5 (nodes road) k i q) 0 ≡ trace_word road ran k i q
  unfolding completed_record_word completed_exit node_word
  completed_word_lem k i zero hk hi hq = full_at road (record_words 4 road ran) k i 0 hk hi hq ∙ record_at 4 road ran k i 0 hk hi (omega arith)
  completed_word_lem k i (suc zero) hk hi hq = full_at road (record_words 4 road ran) k i 1 hk hi hq ∙ record_at 4 road ran k i 1 hk hi (omega arith)
  completed_word_lem k i (suc (suc zero)) hk hi hq = full_at road (record_words 4 road ran) k i 2 hk hi hq ∙ record_at 4 road ran k i 2 hk hi (omega arith)
  completed_word_lem k i (suc (suc (suc zero))) hk hi hq = full_at road (record_words 4 road ran) k i 3 hk hi hq ∙ record_at 4 road ran k i 3 hk hi (omega arith)
  completed_word_lem k i (suc (suc (suc (suc zero)))) hk hi hq =
      full_at road (record_words 4 road ran) k i 4 hk hi hq
      ∙ ⊎_elim
      (λ (g : road.steps ≤ k).
      let e : k ≡ road.steps = omega arith in
      simp (le-ltb k road.steps g) (sym (last_exit k i e)))
      (λ (g : k < road.steps). simp (lt-ltb k road.steps g) (ap (λ (x : ℕ). exit x (road.split k i)) (record_at 4 road ran k i 2 hk hi (omega arith))))
      (le_or_lt road.steps k)
  completed_word_lem k i (suc (suc (suc (suc (suc q))))) hk hi hq = absurd (omega arith)

  completed_is : simulated 5 corridor demands plan ≡ completed_record (road_of corridor demands) (simulated 4 corridor demands plan)
  unfolding simulated
  completed_is =
      sym
      (record_is 5 road ran (completed_record road (record_words 4 road ran)) (full_length road (record_words 4 road ran)) completed_word_lem
      (record {
        low =
            ap (λ (n : ℕ). get_or (completed_record road (record_words 4 road ran)) n 0) (sym (add-zero (trace_length 5 road.links road.steps)))
            ∙ full_cost road (record_words 4 road ran) 0 (omega arith)
            ∙ ap (λ (n : ℕ). get_or (record_words 4 road ran) n 0) (add-zero (trace_length 4 road.links road.steps))
            ∙ (record_cost 4 road ran).low;
        high = full_cost road (record_words 4 road ran) 1 (omega arith) ∙ (record_cost 4 road ran).high;
      }))

  -- the normal form is the plan for what the plan does, whatever the work record's kind
  normal_is : (width : ℕ) → Width width → normal_form width corridor demands plan ≡ plan_words (road_of corridor demands) (plan_for (road_of corridor demands) (run (road_of corridor demands) (plan_of (road_of corridor demands) plan)))
  unfolding normal_form converted_by simulated
  normal_is width wide =
      ap (λ (w : ℕ). converted_by w corridor demands (simulated width corridor demands plan)) (simulated_width width corridor demands plan wide)
      ∙ traces_plan road (trace_of width road (record_words width road ran)) ran (record_read width road ran wide)

  -- past 1 to 6 the corridor and the demands are within limits, and the plan within bounds
  past_refusals : (work room : ℕ) → normal_refusal corridor demands plan work room ≡ Accepted
      → (limits corridor demands ≡ Accepted) × (bounds (road_of corridor demands) (plan_of (road_of corridor demands) plan) ≡ Accepted)
  unfolding normal_refusal limits
  past_refusals work room h =
      let r = (or_else_accepts (sized (sizes corridor demands && _)) _).0 h in
      let s = (or_else_accepts (ranges road) (plan_bounds corridor demands plan)).0 r.1 in
      let fit : sizes corridor demands ≡ true = ((and_iff (sizes corridor demands) _).0 ((sized_iff _).0 r.0)).0 in
      (simp (fit, s.0), s.1)

  refuses_same : (work other room : ℕ) → record_sized (links_of corridor) (steps_of demands) work ≡ true → record_sized (links_of corridor) (steps_of demands) other ≡ true
      → normal_refusal corridor demands plan work room ≡ normal_refusal corridor demands plan other room
  unfolding normal_refusal
  refuses_same work other room hw ho =
      ap
      (λ (t : Bool).
      or_else
      (sized
      (sizes corridor demands
      && (eqb (length plan) (plan_length (links_of corridor) (steps_of demands)) && (t && eqb room (plan_length (links_of corridor) (steps_of demands))))))
      (or_else (ranges road) (plan_bounds corridor demands plan)))
      (hw ∙ sym ho)

  -- so what is left is 12
  answers_same : (work other room : ℕ) → record_sized (links_of corridor) (steps_of demands) work ≡ true → record_sized (links_of corridor) (steps_of demands) other ≡ true
      → normal_answer corridor demands plan work room ≡ normal_answer corridor demands plan other room
  unfolding normal_answer
  answers_same work other room hw ho =
      second_same (normal_refusal corridor demands plan work room) _ _
      (λ h.
      let p = past_refusals work room h in
      only_12 corridor demands p.0 (width_of corridor demands work) (record_wide (links_of corridor) (steps_of demands) work) plan p.1
      ∙ sym (only_12 corridor demands p.0 (width_of corridor demands other) (record_wide (links_of corridor) (steps_of demands) other) plan p.1))
      ∙ ap (λ (a : Answer). or_else a (judged (width_of corridor demands other) road (simulated (width_of corridor demands other) corridor demands plan))) (refuses_same work other room hw ho)

  pub either_kind : EitherKind corridor demands plan
  unfolding normal_left
  either_kind =
      record {
        record_completed = completed_is;
        same_normal_form = λ width other w o. normal_is width w ∙ sym (normal_is other o);
        same_answer = answers_same;
        same_plan = λ work other lent hw ho.
            ap₂ (λ (a : Answer) (words : List ℕ). left a words lent) (answers_same work other (length lent) hw ho)
            (normal_is (width_of corridor demands work) (record_wide (links_of corridor) (steps_of demands) work)
            ∙ sym (normal_is (width_of corridor demands other) (record_wide (links_of corridor) (steps_of demands) other)));
      }
