-- Lists that tell roads which agree at every node and step, and are of right lengths alike, have the same answers and outputs in every call.
use Prim.Native.Nat.{ℕ, ◌≤◌, ◌<◌}
use mathlib.Core.Bool.{Bool, ◌&&◌}
use mathlib.Core.List.{List}
use mathlib.Core.Path.{◌≡◌, refl, ap, ap₂, ◌∙◌}
use lib.Dec.{ltb, leb, eqb}
use lib.ListN.{length}
use Rattle.tables.specs.Answer.{Answer}
use Rattle.tables.specs.Answer.{or_else, sized, left}
use Rattle.tables.proofs.Answers.{left_same}
use Rattle.road.proofs.Roads.{SameRoads}
use Rattle.lists.specs.Words.{links_of, steps_of, road_of, trace_of, plan_length, record_width, width_of}
use Rattle.lengths.specs.Lengths.{record_sized, sizes}
use Rattle.list_scans.specs.Refusals.{ranges, plan_bounds}
use Rattle.lists.proofs.Roads.{roads_record}
use Rattle.list_scans.proofs.Roads.{roads_ranges, roads_bounds}
use Rattle.simulate.specs.Simulate.{simulate_sizes, simulate_answer, simulated, record_left}
use Rattle.convert.specs.Refusals.{judged}
use Rattle.convert.specs.Convert.{converted_by, converted, normal_form, check_answer, convert_answer, plan_left, normal_refusal, normal_answer, work_left, normal_left}
use Rattle.convert.proofs.Roads.{roads_judged, roads_plan}
use Rattle.search.specs.Search.{search_at, search_words, searched, place_answer, search_left}
use Rattle.search.proofs.Places.{place_asks}
use Rattle.search.proofs.Roads.{roads_search}
use Rattle.demands.specs.Completed.{SameOnLists}

module _ (corridor demands corridor' demands' : List ℕ) (roads : SameRoads (road_of corridor demands) (road_of corridor' demands'))
    (fit : sizes corridor demands ≡ sizes corridor' demands') where
  links : links_of corridor ≡ links_of corridor'
  unfolding road_of
  links = roads.links

  steps : steps_of demands ≡ steps_of demands'
  unfolding road_of
  steps = roads.steps

  plan_long : plan_length (links_of corridor) (steps_of demands) ≡ plan_length (links_of corridor') (steps_of demands')
  plan_long = ap₂ plan_length links steps

  record_long : (count : ℕ) → record_sized (links_of corridor) (steps_of demands) count ≡ record_sized (links_of corridor') (steps_of demands') count
  record_long count = ap₂ (λ (x y : ℕ). record_sized x y count) links steps

  record_wide : (count : ℕ) → width_of corridor demands count ≡ width_of corridor' demands' count
  record_wide count = ap₂ (λ (x y : ℕ). record_width x y count) links steps

  ranged : ranges (road_of corridor demands) ≡ ranges (road_of corridor' demands')
  ranged = roads_ranges _ _ roads

  bounded : (plan : List ℕ) → plan_bounds corridor demands plan ≡ plan_bounds corridor' demands' plan
  bounded plan = roads_bounds _ _ roads plan

  judges : (words : List ℕ)
      → judged (width_of corridor demands (length words)) (road_of corridor demands) words ≡ judged (width_of corridor' demands' (length words)) (road_of corridor' demands') words
  judges words = roads_judged _ _ roads _ words ∙ ap (λ (w : ℕ). judged w (road_of corridor' demands') words) (record_wide (length words))

  simulates : (width : ℕ) (plan : List ℕ) → simulated width corridor demands plan ≡ simulated width corridor' demands' plan
  unfolding simulated
  simulates width plan = roads_record _ _ roads width plan

  -- into a record of this length
  simulates_by : (count : ℕ) (plan : List ℕ) → simulated (width_of corridor demands count) corridor demands plan ≡ simulated (width_of corridor' demands' count) corridor' demands' plan
  simulates_by count plan = simulates _ plan ∙ ap (λ (w : ℕ). simulated w corridor' demands' plan) (record_wide count)

  pub alike_plans : (words : List ℕ) → converted corridor demands words ≡ converted corridor' demands' words
  unfolding converted_by
  alike_plans words = roads_plan _ _ roads _ words ∙ ap (λ (w : ℕ). converted_by w corridor' demands' words) (record_wide (length words))

  -- ---- the calls

  simulate_same : (plan : List ℕ) (room : ℕ) → simulate_answer corridor demands plan room ≡ simulate_answer corridor' demands' plan room
  unfolding simulate_answer simulate_sizes
  simulate_same plan room =
      λ z. or_else (sized (fit z && (eqb (length plan) (plan_long z) && record_long room z))) (or_else (ranged z) (bounded plan z))

  pub alike_checks : (words : List ℕ) → check_answer corridor demands words ≡ check_answer corridor' demands' words
  unfolding check_answer
  alike_checks words = λ z. or_else (sized (fit z && record_long (length words) z)) (or_else (ranged z) (judges words z))

  convert_same : (words : List ℕ) (room : ℕ) → convert_answer corridor demands words room ≡ convert_answer corridor' demands' words room
  unfolding convert_answer
  convert_same words room =
      λ z. or_else (sized (fit z && (record_long (length words) z && eqb room (plan_long z)))) (or_else (ranged z) (judges words z))

  place_same : (words : List ℕ) (step node : ℕ) (fits : Bool) → place_answer corridor demands words step node fits ≡ place_answer corridor' demands' words step node fits
  unfolding place_answer
  place_same words step node fits =
      λ z. or_else (sized (fit z && (record_long (length words) z && (ltb step (steps z) && (leb node (links z) && fits))))) (or_else (ranged z) (judges words z))

  -- at a step and node that are accepted
  searches : (words : List ℕ) (step node : ℕ) → step < steps_of demands → node ≤ links_of corridor → searched corridor demands words step node ≡ searched corridor' demands' words step node
  unfolding searched road_of
  searches words step node early here =
      ap search_words
      (roads_search _ _ roads _ words step node early here
      ∙ ap (λ (w : ℕ). search_at (road_of corridor' demands') (trace_of w (road_of corridor' demands') words) step node) (record_wide (length words)))

  search_same : (words : List ℕ) (step node : ℕ) (lent : List ℕ) → search_left corridor demands words step node lent ≡ search_left corridor' demands' words step node lent
  unfolding search_left
  search_same words step node lent =
      left_same (place_answer corridor demands words step node (eqb (length lent) 3)) _ _ lent
      (λ a. let (asked, room) = place_asks corridor demands words step node _ _ refl a in searches words step node asked.early asked.here)
      ∙ ap (λ (a : Answer). left a (searched corridor' demands' words step node) lent) (place_same words step node (eqb (length lent) 3))

  refuses_same : (plan : List ℕ) (work room : ℕ) → normal_refusal corridor demands plan work room ≡ normal_refusal corridor' demands' plan work room
  unfolding normal_refusal
  refuses_same plan work room =
      λ z. or_else (sized (fit z && (eqb (length plan) (plan_long z) && (record_long work z && eqb room (plan_long z))))) (or_else (ranged z) (bounded plan z))

  judges_both : (work : ℕ) (plan : List ℕ)
      → judged (width_of corridor demands work) (road_of corridor demands) (simulated (width_of corridor demands work) corridor demands plan)
      ≡ judged (width_of corridor' demands' work) (road_of corridor' demands') (simulated (width_of corridor' demands' work) corridor' demands' plan)
  judges_both work plan =
      roads_judged _ _ roads _ (simulated (width_of corridor demands work) corridor demands plan)
      ∙ ap₂ (λ (w : ℕ) (words : List ℕ). judged w (road_of corridor' demands') words) (record_wide work) (simulates_by work plan)

  normal_same : (plan : List ℕ) (work room : ℕ) → normal_answer corridor demands plan work room ≡ normal_answer corridor' demands' plan work room
  unfolding normal_answer
  normal_same plan work room = λ z. or_else (refuses_same plan work room z) (judges_both work plan z)

  pub alike_lists : SameOnLists corridor demands corridor' demands'
  unfolding record_left plan_left work_left normal_left normal_form
  alike_lists =
      record {
        simulate_answers = simulate_same;
        simulate_writes = λ plan lent z. left (simulate_same plan (length lent) z) (simulates_by (length lent) plan z) lent;
        check_answers = alike_checks;
        convert_answers = convert_same;
        convert_writes = λ words lent z. left (convert_same words (length lent) z) (alike_plans words z) lent;
        search_answers = λ words step node room. place_same words step node (eqb room 3);
        search_writes = search_same;
        normal_answers = normal_same;
        normal_works = λ plan lent room z. left (refuses_same plan (length lent) room z) (simulates_by (length lent) plan z) lent;
        normal_writes =
            λ plan work lent.
            ap₂ (λ (a : Answer) (words : List ℕ). left a words lent) (normal_same plan work (length lent))
            (alike_plans (simulated (width_of corridor demands work) corridor demands plan) ∙ ap (converted corridor' demands') (simulates_by work plan));
      }
