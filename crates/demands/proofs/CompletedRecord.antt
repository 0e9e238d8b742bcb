-- A record of kind 3 and the one of kind 7 with the right exits are proved to do the same: they tell one trace, and the exits are as each test asks.
use Prim.Native.Nat.{ℕ, zero, suc, ◌+◌, ◌≤◌, ◌<◌}
use mathlib.Core.Bool.{Bool, true, ◌&&◌}
use mathlib.Core.List.{List, [], ◌∷◌}
use mathlib.Core.Logic.{⊎_elim}
use mathlib.Core.Path.{◌≡◌, refl, sym, ap, ap₂, ◌∙◌}
use native.Mathlib.Nat.{add-zero}
use native.Mathlib.Omega.{arith}
use borrow.Author.Tests.{lt-ltb, le-ltb, eq-eqb}
use lib.Dec.{ltb, leb, eqb}
use lib.ListN.{length, get_or, length-append}
use Rattle.tables.specs.Answer.{Answer}
use Rattle.tables.specs.Answer.{or_else, refusal, sized, left}
use Rattle.tables.specs.Grid.{grid, place}
use Rattle.tables.proofs.Answers.{left_same}
use Rattle.tables.proofs.First.{first_place_same}
use Rattle.tables.proofs.Grid.{grid_length, before_rest, at_rest, each_with_rest}
use Rattle.tables.proofs.Numbers.{le_or_lt}
use Rattle.tables.proofs.Tests.{and_iff}
use Rattle.std.specs.Prelude.{None}
use Rattle.road.specs.Corridor.{Road, Trace, nodes}
use Rattle.road.specs.Step.{exit}
use Rattle.road.specs.Run.{junction, next}
use Rattle.road.specs.Limits.{Limits}
use Rattle.road.proofs.Rules.{state_eq, flows_eq, exit_le, exit_unsplit}
use Rattle.road.proofs.Same.{SameTraces, junction_same, next_same, cost_same}
use Rattle.settings.specs.Setting.{setting_for, rate_in, limit_in}
use Rattle.record_faults.specs.Records.{exit_kept, fixed_fault, step_fault, total_fault}
use Rattle.record_faults.proofs.Records.{NoExit, fixed_unsaid, step_unsaid}
use Rattle.lists.specs.Words.{links_of, steps_of, road_of, plan_words, Width, trace_of, exit_said, exits_of, trace_length, plan_length, record_length, width_of}
use Rattle.lengths.specs.Lengths.{record_sized, sizes}
use Rattle.list_scans.specs.Refusals.{ranges}
use Rattle.lengths.proofs.Sizes.{sizes_iff, width_is, record_sized_iff}
use Rattle.list_scans.proofs.Limits.{ranges_iff}
use Rattle.lists.proofs.Words.{plan_same}
use Rattle.convert.specs.Refusals.{cost_fault, fixed_at, step_at, judged}
use Rattle.convert.specs.Convert.{setting_at, plan_for, converted_by, converted, record_refusal, record_answer, check_answer, convert_answer, plan_left}
use Rattle.search.specs.Search.{search_at, search_words, searched, place_answer, search_left}
use Rattle.search.proofs.Places.{place_asks}
use Rattle.search.proofs.Roads.{traces_search}
use Rattle.payload.specs.Word.{Words}
use Rattle.files.proofs.Turns.{second_same, sized_same}
use Rattle.demands.specs.Completed.{completed_exit, completed_record_word, completed_record, SameRecords}

-- ---- traces that agree have one plan, and one answer where their exits and their costs do

module _ (road : Road) (trace other : Trace) (same : SameTraces road trace other) where
  place_setting : (k i : ℕ) → k < road.steps → i ≤ road.links → setting_at road trace k i ≡ setting_at road other k i
  unfolding setting_at
  place_setting k i hk hi =
      ap₂ setting_for (junction_same road k (trace.state k) (other.state k) i (λ j hj. (same k j (omega arith) hj).state) hi) (same k i (omega arith) hi).flows

  pub traces_plan : plan_words road (plan_for road trace) ≡ plan_words road (plan_for road other)
  unfolding plan_for
  traces_plan =
      plan_same road (plan_for road trace) (plan_for road other)
      (λ k i hk hi.
      record { rate = ap rate_in (place_setting k i hk hi); limit = ap (limit_in (road.node i).link.full_speed) (place_setting k i hk hi) })

-- ---- the record with its exits

module _ (road : Road) (words : List ℕ) where
  abbrev full : List ℕ
  full = completed_record road words

  pub full_length : length (completed_record road words) ≡ record_length 5 road.links road.steps
  unfolding completed_record
  full_length = length-append (grid 5 (nodes road) (suc road.steps) (completed_record_word road words)) _ ∙ ap (λ (n : ℕ). n + 2) (grid_length 5 (nodes road) (suc road.steps) _)

  pub full_at : (k i q : ℕ) → k ≤ road.steps → i ≤ road.links → q < 5 → get_or (completed_record road words) (place 5 (nodes road) k i q) 0 ≡ completed_record_word road words k i q
  unfolding completed_record
  full_at k i q hk hi hq = before_rest 5 (nodes road) (suc road.steps) (completed_record_word road words) _ k i q (omega arith) (omega arith) hq

  pub full_cost : (q : ℕ) → q < 2 → get_or (completed_record road words) (trace_length 5 road.links road.steps + q) 0 ≡ get_or words (trace_length 4 road.links road.steps + q) 0
  unfolding completed_record
  full_cost q h = at_rest 5 (nodes road) (suc road.steps) (completed_record_word road words) _ q ∙ last q h
    where
      at : ℕ
      at = trace_length 4 road.links road.steps

      last : (j : ℕ) → j < 2 → get_or (get_or words at 0 ∷ get_or words (at + 1) 0 ∷ []) j 0 ≡ get_or words (at + j) 0
      last zero b = ap (λ (n : ℕ). get_or words n 0) (sym (add-zero at))
      last (suc zero) b = refl
      last (suc (suc j)) b = absurd (omega arith)

  -- its words but the exits
  kept : (k i q : ℕ) → k ≤ road.steps → i ≤ road.links → q < 4 → get_or (completed_record road words) (place 5 (nodes road) k i q) 0 ≡ get_or words (place 4 (nodes road) k i q) 0
  unfolding completed_record_word
  kept k i q hk hi hq = full_at k i q hk hi (omega arith) ∙ simp (lt-ltb q 4 hq)

  pub full_trace : SameTraces road (trace_of 5 road (completed_record road words)) (trace_of 4 road words)
  unfolding trace_of
  full_trace k i hk hi =
      record {
        state = state_eq _ _ (kept k i 0 hk hi (omega arith)) (kept k i 1 hk hi (omega arith));
        flows = flows_eq _ _ (kept k i 2 hk hi (omega arith)) (kept k i 3 hk hi (omega arith));
      }

  -- where the record's words are of 32 bits and no split is above 65,536, these are too: no exit is above its flow
  full_word_fits : Words words → ((k i : ℕ) → k < road.steps → i ≤ road.links → road.split k i ≤ 65536)
      → (k i q : ℕ) → k ≤ road.steps → i ≤ road.links → completed_record_word road words k i q < 4294967296
  unfolding completed_record_word completed_exit
  full_word_fits fits splits k i q hk hi =
      ⊎_elim
      (λ (b : 4 ≤ q).
      ⊎_elim
      (λ (g : road.steps ≤ k). simp (le-ltb q 4 b, le-ltb k road.steps g) (omega arith))
      (λ (g : k < road.steps).
      simp (le-ltb q 4 b, lt-ltb k road.steps g)
      (omega (arith, exit_le (get_or words (place 4 (nodes road) k i 2) 0) (road.split k i) (splits k i g hi), fits (place 4 (nodes road) k i 2))))
      (le_or_lt road.steps k))
      (λ (b : q < 4). simp (lt-ltb q 4 b) (fits (place 4 (nodes road) k i q)))
      (le_or_lt 4 q)

  pub full_fits : Words words → ((k i : ℕ) → k < road.steps → i ≤ road.links → road.split k i ≤ 65536) → Words (completed_record road words)
  unfolding completed_record
  full_fits fits splits =
      each_with_rest 5 (nodes road) (suc road.steps) (completed_record_word road words) _ (λ word. word < 4294967296)
      (λ k i q hk hi hq. full_word_fits fits splits k i q (omega arith) (omega arith))
      word
    where
      at : ℕ
      at = trace_length 4 road.links road.steps

      word : (q : ℕ) → get_or (get_or words at 0 ∷ get_or words (at + 1) 0 ∷ []) q 0 < 4294967296
      word zero = fits at
      word (suc zero) = fits (at + 1)
      word (suc (suc q)) = omega arith

  -- what it says of an exit, and what the other does
  full_says : (k i flow : ℕ) → k ≤ road.steps → i ≤ road.links → completed_exit road words k i ≡ flow → exit_kept (exits_of 5 road (completed_record road words) k i) flow ≡ true
  unfolding exit_said completed_record_word
  full_says k i flow hk hi e = eq-eqb _ flow (full_at k i 4 hk hi (omega arith) ∙ e)

  says_none : (k i : ℕ) → exits_of 4 road words k i ≡ None
  unfolding exit_said
  says_none k i = refl

  past : (k i : ℕ) → k ≡ road.steps → completed_exit road words k i ≡ 0
  unfolding completed_exit
  past k i e = simp (le-ltb k road.steps (omega arith))

  unsplit : (k i : ℕ) → k ≤ road.steps → (k < road.steps → road.split k i ≡ 0) → completed_exit road words k i ≡ 0
  unfolding completed_exit
  unsplit k i hk none =
      ⊎_elim
      (λ (g : road.steps ≤ k). simp (le-ltb k road.steps g))
      (λ (g : k < road.steps). simp (lt-ltb k road.steps g) (exit_unsplit _ (road.split k i) (none g)))
      (le_or_lt road.steps k)

  module _ (limits : Limits road) where
    none_said : (k i : ℕ) → k ≤ road.steps → i ≤ road.links → NoExit road k i (exits_of 5 road (completed_record road words) k i)
    none_said k i hk hi =
        record {
          last = λ e. full_says k i 0 hk hi (past k i e);
          entry = λ e. full_says k i 0 hk hi (unsplit k i hk (λ g. (limits.demand k i g hi).entry e));
          end = λ e. full_says k i 0 hk hi (unsplit k i hk (λ g. (limits.demand k i g hi).exit_split e));
        }

    fixed_same : (k i : ℕ) → k ≤ road.steps → i ≤ road.links
        → fixed_at road (trace_of 5 road (completed_record road words)) (exits_of 5 road (completed_record road words)) k i ≡ fixed_at road (trace_of 4 road words) (exits_of 4 road words) k i
    fixed_same k i hk hi =
        fixed_unsaid road k i _ _ _ (none_said k i hk hi)
        ∙ (λ z. fixed_fault road k i ((full_trace k i hk hi).state z) ((full_trace k i hk hi).flows z) (sym (says_none k i) z))

    right_said : (k i : ℕ) → k < road.steps → i ≤ road.links
        → exit_kept (exits_of 5 road (completed_record road words) k i) (exit ((trace_of 5 road (completed_record road words)).flows k i).main (road.split k i)) ≡ true
    unfolding completed_exit trace_of
    right_said k i hk hi =
        full_says k i _ (omega arith) hi (simp (lt-ltb k road.steps hk) (ap (λ (x : ℕ). exit x (road.split k i)) (sym (kept k i 2 (omega arith) hi (omega arith)))))

    step_same : (k i : ℕ) → k < road.steps → i ≤ road.links
        → step_at road (trace_of 5 road (completed_record road words)) (exits_of 5 road (completed_record road words)) k i ≡ step_at road (trace_of 4 road words) (exits_of 4 road words) k i
    unfolding junction
    step_same k i hk hi =
        let a : Trace = trace_of 5 road (completed_record road words) in
        let b : Trace = trace_of 4 road words in
        let states : (j : ℕ) → j ≤ road.links → a.state k j ≡ b.state k j = λ j hj. (full_trace k j (omega arith) hj).state in
        let flows : (j : ℕ) → j ≤ road.links → a.flows k j ≡ b.flows k j = λ j hj. (full_trace k j (omega arith) hj).flows in
        let at : junction road k (a.state k) i ≡ junction road k (b.state k) i = junction_same road k (a.state k) (b.state k) i states hi in
        let moves : next road k (a.state k) (a.flows k) i ≡ next road k (b.state k) (b.flows k) i = next_same road k (a.state k) (b.state k) (a.flows k) (b.flows k) i states flows hi in
        step_unsaid (junction road k (a.state k) i) (a.flows k i) (exits_of 5 road (completed_record road words) k i) _ _ (right_said k i hk hi)
        ∙ (λ z. step_fault (at z) (flows i hi z) (sym (says_none k i) z) (moves z) ((full_trace (suc k) i hk hi).state z))

    pub full_judged : judged 5 road (completed_record road words) ≡ judged 4 road words
    unfolding judged cost_fault
    full_judged =
        let fixed = first_place_same (suc road.steps) (nodes road) _ _ (λ k i hk hi. fixed_same k i (omega arith) (omega arith)) in
        let steps = first_place_same road.steps (nodes road) _ _ (λ k i hk hi. step_same k i hk (omega arith)) in
        let total = cost_same road (trace_of 5 road (completed_record road words)) (trace_of 4 road words) full_trace in
        let low : get_or (completed_record road words) (trace_length 5 road.links road.steps) 0 ≡ get_or words (trace_length 4 road.links road.steps) 0 =
        ap (λ (n : ℕ). get_or (completed_record road words) n 0) (sym (add-zero (trace_length 5 road.links road.steps)))
        ∙ full_cost 0 (omega arith)
        ∙ ap (λ (n : ℕ). get_or words n 0) (add-zero (trace_length 4 road.links road.steps)) in
        λ z. or_else (fixed z) (or_else (steps z) (refusal (total_fault (total z) (low z) (full_cost 1 (omega arith) z)) 0 0))

-- ---- the calls on lists

module _ (corridor demands words : List ℕ) (fits : length words ≡ record_length 4 (links_of corridor) (steps_of demands)) where
  abbrev road : Road
  road = road_of corridor demands

  four : Width 4
  four = record { least = omega arith; most = omega arith }

  five : Width 5
  five = record { least = omega arith; most = omega arith }

  pub long_length : length (completed_record (road_of corridor demands) words) ≡ record_length 5 (links_of corridor) (steps_of demands)
  unfolding road_of
  long_length = full_length road words

  short_width : width_of corridor demands (length words) ≡ 4
  short_width = ap (width_of corridor demands) fits ∙ width_is 4 (links_of corridor) (steps_of demands) four

  long_width : width_of corridor demands (length (completed_record (road_of corridor demands) words)) ≡ 5
  long_width = ap (width_of corridor demands) long_length ∙ width_is 5 (links_of corridor) (steps_of demands) five

  short_sized : record_sized (links_of corridor) (steps_of demands) (length words) ≡ true
  short_sized = (record_sized_iff _ _ _).1 (fits ∙ ap (λ (w : ℕ). record_length w (links_of corridor) (steps_of demands)) (sym short_width))

  long_sized : record_sized (links_of corridor) (steps_of demands) (length (completed_record (road_of corridor demands) words)) ≡ true
  long_sized = (record_sized_iff _ _ _).1 (long_length ∙ ap (λ (w : ℕ). record_length w (links_of corridor) (steps_of demands)) (sym long_width))

  sized_alike : record_sized (links_of corridor) (steps_of demands) (length words) ≡ record_sized (links_of corridor) (steps_of demands) (length (completed_record (road_of corridor demands) words))
  sized_alike = short_sized ∙ sym long_sized

  -- past 2 to 5 the road is within limits
  refuses_alike : sizes corridor demands ≡ true → record_refusal corridor demands words ≡ record_refusal corridor demands (completed_record (road_of corridor demands) words)
  unfolding road_of
  refuses_alike s =
      let z = (sizes_iff corridor demands).0 s in
      second_same (ranges road) _ _
      (λ h.
      ap (λ (w : ℕ). judged w road words) short_width
      ∙ sym (full_judged road words ((ranges_iff road z.links z.steps).0 h))
      ∙ ap (λ (w : ℕ). judged w road (completed_record road words)) (sym long_width))

  pub completed_checks : check_answer corridor demands words ≡ check_answer corridor demands (completed_record (road_of corridor demands) words)
  unfolding check_answer
  completed_checks =
      sized_same (sizes corridor demands && record_sized (links_of corridor) (steps_of demands) (length words)) _ _ (λ t. refuses_alike ((and_iff (sizes corridor demands) _).0 t).0)
      ∙ ap (λ (t : Bool). or_else (sized (sizes corridor demands && t)) (record_refusal corridor demands (completed_record road words))) sized_alike

  -- with one more test among those of 1
  completed_with : (also : Bool) → record_answer also corridor demands words ≡ record_answer also corridor demands (completed_record (road_of corridor demands) words)
  completed_with also =
      sized_same (sizes corridor demands && (record_sized (links_of corridor) (steps_of demands) (length words) && also)) _ _ (λ t. refuses_alike ((and_iff (sizes corridor demands) _).0 t).0)
      ∙ ap (λ (t : Bool). or_else (sized (sizes corridor demands && (t && also))) (record_refusal corridor demands (completed_record road words))) sized_alike

  completed_converts : (room : ℕ) → convert_answer corridor demands words room ≡ convert_answer corridor demands (completed_record (road_of corridor demands) words) room
  unfolding convert_answer
  completed_converts room = completed_with (eqb room (plan_length (links_of corridor) (steps_of demands)))

  completed_places : (step node : ℕ) (fits : Bool) → place_answer corridor demands words step node fits ≡ place_answer corridor demands (completed_record (road_of corridor demands) words) step node fits
  unfolding place_answer
  completed_places step node fits = completed_with (ltb step (steps_of demands) && (leb node (links_of corridor) && fits))

  pub completed_plans : converted corridor demands words ≡ converted corridor demands (completed_record (road_of corridor demands) words)
  unfolding converted_by
  completed_plans =
      ap (λ (w : ℕ). converted_by w corridor demands words) short_width
      ∙ sym (traces_plan road (trace_of 5 road (completed_record road words)) (trace_of 4 road words) (full_trace road words))
      ∙ ap (λ (w : ℕ). converted_by w corridor demands (completed_record road words)) (sym long_width)

  completed_searched : (step node : ℕ) → step < steps_of demands → node ≤ links_of corridor
      → searched corridor demands words step node ≡ searched corridor demands (completed_record (road_of corridor demands) words) step node
  unfolding searched road_of
  completed_searched step node early here =
      ap (λ (w : ℕ). search_words (search_at road (trace_of w road words) step node)) short_width
      ∙ ap search_words (sym (traces_search road (trace_of 5 road (completed_record road words)) (trace_of 4 road words) (full_trace road words) step node early here))
      ∙ ap (λ (w : ℕ). search_words (search_at road (trace_of w road (completed_record road words)) step node)) (sym long_width)

  completed_searches : (step node : ℕ) (lent : List ℕ) → search_left corridor demands words step node lent ≡ search_left corridor demands (completed_record (road_of corridor demands) words) step node lent
  unfolding search_left
  completed_searches step node lent =
      left_same (place_answer corridor demands words step node (eqb (length lent) 3)) _ _ lent
      (λ a. let (asked, room) = place_asks corridor demands words step node _ _ refl a in completed_searched step node asked.early asked.here)
      ∙ ap (λ (a : Answer). left a (searched corridor demands (completed_record road words) step node) lent) (completed_places step node (eqb (length lent) 3))

  pub record_completes : SameRecords corridor demands words (completed_record (road_of corridor demands) words)
  unfolding plan_left
  record_completes =
      record {
        check_answers = completed_checks;
        convert_answers = completed_converts;
        convert_writes = λ lent z. left (completed_converts (length lent) z) (completed_plans z) lent;
        search_answers = λ step node room. completed_places step node (eqb room 3);
        search_writes = completed_searches;
      }
