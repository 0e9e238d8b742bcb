-- Laws of the run's loops: what one step asks and gives, and the invariants of the loops over all steps.
use Prim.Native.Nat.{ℕ, suc, ◌+◌, ◌-◌, ◌*◌, ◌/◌, ◌%◌, ◌≤◌, ◌<◌}
use mathlib.Core.List.{List, [], ◌∷◌, ◌++◌}
use mathlib.Core.Path.{◌≡◌, refl, sym, ap, ap₂, subst, ◌∙◌}
use native.Mathlib.Numerals.{add-one}
use native.Mathlib.Omega.{arith}
use borrow.Rule.Slice.PartMut.{put_mid}
use lib.ListN.{length, get_or, set, drop, length-append}
use lib.Seq.{drop-cons, set_at, append_snoc, drop-length}
use Rattle.tables.specs.Grid.{cell, grid}
use Rattle.tables.specs.Sum.{sum}
use Rattle.tables.proofs.Grid.{cell_same, Rowed, rowed_words, rowed_grid}
use Rattle.tables.proofs.Numbers.{row_fits_lem}
use Rattle.tables.proofs.Part.{part_length}
use Rattle.tables.proofs.Sum.{sum_none, sum_more}
use Rattle.road.specs.Corridor.{Flows}
use Rattle.road.specs.Step.{exit}
use Rattle.road.specs.Run.{state_at, no_flow, run, cost}
use Rattle.road.proofs.Rules.{exit_of_none}
use Rattle.road.proofs.Runs.{run_flows, run_last}
use Rattle.lists.specs.Words.{links_of, steps_of, downstream_word, road_of, plan_of, node_word, trace_word, trace_words, low_high, record_words, record_length, record_width, width_of}
use Rattle.lists.specs.Rows.{state_in, lent}
use Rattle.lists.specs.Fits.{RowFits}
use Rattle.lengths.proofs.Sizes.{width_told}
use Rattle.lists.proofs.Words.{trace_length_lem}
use Rattle.link_table.proofs.Table.{table_fits_lem}
use Rattle.simulate_rows.specs.Rows.{row_of, rest_row, start_row, StepKept, RowsFit, Stepped}
use Rattle.simulate.specs.Simulate.{Sound, state_row, step_row, ran_cost, run_cost, run_words, RunAt, Ran, RanAll, simulated}
use Rattle.simulate_rows.proofs.Rows.{row_length, rest_state, row_same}
use Rattle.simulate_rows.proofs.Steps.{flows_fit_lem}
use Rattle.simulate.proofs.Steps.{StepRows, step_rows, step_kept, record_row_is, next_row_is, next_cost_is, start_row_is}

-- ---- the corridor's start, as the code has it

pub started : (corridor demands plan : List ℕ) (links : ℕ) (state : List ℕ) → links ≡ links_of corridor → state ≡ start_row corridor links → state ≡ state_row 2 corridor demands plan 0
started corridor demands plan links state n e = e ∙ ap (start_row corridor) n ∙ start_row_is corridor demands plan

-- two words stored after what was written to the front
two_after : (g d : List ℕ) (m a b : ℕ) → length g ≡ m → length d ≡ m + 2 → set (set (g ++ drop m d) m a) (m + 1) b ≡ g ++ (a ∷ b ∷ [])
two_after g d m a b e h =
    let x : ℕ = get_or d m 0 in
    let y : ℕ = get_or d (suc m) 0 in
    let z : suc (suc m) ≡ length d = omega arith in
    let r : drop m d ≡ x ∷ y ∷ [] =
    drop-cons d m 0 (omega arith)
    ∙ ap (λ (t : List ℕ). x ∷ t) (drop-cons d (suc m) 0 (omega arith) ∙ ap (λ (t : List ℕ). y ∷ t) (ap (λ (k : ℕ). drop k d) z ∙ drop-length d)) in
    ap (λ (t : List ℕ). set (set (g ++ t) m a) (m + 1) b) r
    ∙ ap (λ (t : List ℕ). set t (m + 1) b) (set_at g x (y ∷ []) a m e)
    ∙ ap (λ (t : List ℕ). set t (m + 1) b) (sym (append_snoc g a (y ∷ [])))
    ∙ set_at (g ++ (a ∷ [])) y [] b (m + 1) (length-append g (a ∷ []) ∙ ap (λ (k : ℕ). k + 1) e)
    ∙ append_snoc g a (b ∷ [])

-- the state that a run keeps, as the code has N
pub state_lent : (corridor demands plan : List ℕ) (k links : ℕ) (table state room : List ℕ) → RunAt corridor demands plan k table state room → links ≡ links_of corridor → RowFits 2 state links
unfolding state_row
state_lent corridor demands plan k links table state room a n = ap length a.reached ∙ row_length 2 (links_of corridor) _ _ _ ∙ ap (λ (x : ℕ). suc x * 2) (sym n)

-- ---- one step, as the code lends its rows: `links` is N as it has it, `demand` and `rates` are row k of the demands and of the plan

module _ (corridor demands plan : List ℕ) (k links : ℕ) (sound : Sound corridor demands plan) (n : links ≡ links_of corridor) (h : k < steps_of demands)
    (demand rates : List ℕ) (d : demand ≡ lent (1 + k * (suc links * 2)) (suc links * 2) demands) (r : rates ≡ lent (k * (suc links * 2)) (suc links * 2) plan) where
  step_lent : StepRows corridor demands plan k demand rates
  step_lent = rw (d, r) (step_rows corridor demands plan k (suc links * 2) (1 + k * (suc links * 2)) (k * (suc links * 2)) (ap (λ (x : ℕ). suc x * 2) n) refl refl)

  within : k * (suc links * 2) + suc links * 2 ≤ steps_of demands * (suc (links_of corridor) * 2)
  within =
      let w : suc links * 2 ≡ suc (links_of corridor) * 2 = ap (λ (x : ℕ). suc x * 2) n in
      omega (arith, row_fits_lem k (steps_of demands) (suc (links_of corridor) * 2) h, ap (λ (x : ℕ). k * x) w)

  module _ (table state room : List ℕ) (at_k : RunAt corridor demands plan k table state room) where
    step_asks : (j : ℕ) → j ≤ links → StepKept table demand rates state j
    step_asks j l =
        subst (λ (x : List ℕ). StepKept table demand rates x j) (sym at_k.reached)
        (step_kept corridor demands plan k table demand rates at_k.tabled step_lent sound.limits sound.bounded h j (omega arith))

    pub rows_fit : RowsFit table demand rates state links × RowFits 2 room links
    rows_fit = (
      record {
        few = omega (arith, sound.corridor_fits.few);
        table_fits = table_fits_lem corridor (links_of corridor) table at_k.tabled ∙ ap (λ (x : ℕ). suc x * 8) (sym n);
        demand_fits = ap length d ∙ part_length (1 + k * (suc links * 2)) (suc links * 2) (length demands) demands (omega (arith, within, sound.demands_fit)) refl;
        plan_fits = ap length r ∙ part_length (k * (suc links * 2)) (suc links * 2) (length plan) plan (omega (arith, within, sound.plan_fits)) refl;
        state_fits = state_lent corridor demands plan k links table state room at_k n;
        kept = step_asks;
      },
      at_k.room ∙ ap (λ (x : ℕ). suc x * 2) (sym n),
    )

    -- flows, row, after and total are what the step gave
    pub step_ran : (width steps downstream : ℕ) → steps ≡ steps_of demands → downstream ≡ downstream_word demands links steps k → (passed row after : List ℕ) (total : ℕ)
        → Stepped width table links demand downstream rates state passed row after total → Ran width corridor demands plan k passed row after total
    unfolding road_of
    step_ran width steps downstream q x passed row after total given =
        let g = subst (λ (y : List ℕ). Stepped width table (links_of corridor) demand downstream rates y passed row after total) at_k.reached
        (subst (λ (y : ℕ). Stepped width table y demand downstream rates state passed row after total) n given) in
        let beyond : downstream ≡ (road_of corridor demands).downstream k = x ∙ ap₂ (λ (y z : ℕ). downstream_word demands y z k) n q in
        record {
          written = g.gives.written ∙ record_row_is corridor demands plan k table demand rates at_k.tabled step_lent downstream beyond passed g.passed width;
          moved = g.gives.moves ∙ next_row_is corridor demands plan k table demand rates at_k.tabled step_lent downstream beyond passed g.passed;
          adds = g.gives.adds ∙ next_cost_is corridor demands plan k table demand rates at_k.tabled step_lent downstream beyond passed g.passed;
          low = g.gives.low;
          room = flows_fit_lem table (links_of corridor) demand downstream rates _ passed g.passed;
        }

-- the row lent for a step, as the code has N
pub row_lent : (width : ℕ) (corridor row : List ℕ) (links : ℕ) → links ≡ links_of corridor → RowFits width row (links_of corridor) → RowFits width row links
row_lent width corridor row links n e = e ∙ ap (λ (x : ℕ). suc x * width) (sym n)

-- ---- the lengths of the record's rows, as the code has them: w is how many words one has

pub row_wide : (width : ℕ) (corridor : List ℕ) (links w : ℕ) → links ≡ links_of corridor → w ≡ suc links * width → w ≡ suc (links_of corridor) * width
row_wide width corridor links w n q = q ∙ ap (λ (x : ℕ). suc x * width) n

-- ---- as a loop's invariant: the state is state k, and the total its cost so far

pub record RanTo (corridor demands plan : List ℕ) (k : ℕ) (table state room : List ℕ) (total : ℕ) : Type 0 where
  pub bound : k ≤ steps_of demands
  pub keeps : RunAt corridor demands plan k table state room
  pub sums : total ≡ sum k (λ h. ran_cost corridor demands plan (suc h))
  pub low : total ≤ k * 558345748350

module _ (corridor demands plan table : List ℕ) where
  pub ran_begun : (state room : List ℕ) → RunAt corridor demands plan 0 table state room → RanTo corridor demands plan 0 table state room 0
  ran_begun state room e = record { bound = omega arith; keeps = e; sums = sym (sum_none _); low = omega arith }

  pub ran_more : (width k : ℕ) (state after room room' row : List ℕ) (total more : ℕ) → RanTo corridor demands plan k table state room total → k < steps_of demands
      → Ran width corridor demands plan k room' row after more → RanTo corridor demands plan (k + 1) table after room' (total + more)
  ran_more width k state after room room' row total more ran h more_ran =
      record {
        bound = omega arith;
        keeps = record { tabled = ran.keeps.tabled; reached = more_ran.moved ∙ ap (state_row 2 corridor demands plan) (sym (add-one k)); room = more_ran.room };
        sums = omega (arith, ran.sums, more_ran.adds, sum_more k (λ j. ran_cost corridor demands plan (suc j)));
        low = omega (arith, ran.low, more_ran.low);
      }

  module _ (k : ℕ) (state room : List ℕ) (total : ℕ) (ran : RanTo corridor demands plan k table state room total) (h : steps_of demands ≤ k) where
    -- all steps are done
    ran_all : k ≡ steps_of demands
    ran_all = omega (arith, ran.bound)

    ran_state_lem : state ≡ state_row 2 corridor demands plan (steps_of demands)
    ran_state_lem = ran.keeps.reached ∙ ap (state_row 2 corridor demands plan) ran_all

    pub ran_cost_lem : total ≡ run_cost corridor demands plan
    unfolding run_cost cost run ran_cost road_of
    ran_cost_lem = ran.sums ∙ ap (λ (j : ℕ). sum j (λ m. ran_cost corridor demands plan (suc m))) ran_all

    -- the last state as a row of the record, as its call gave it
    pub ran_last : (width links : ℕ) (row : List ℕ) → links ≡ links_of corridor → row ≡ rest_row width links (state_in 2 state) → row ≡ state_row width corridor demands plan (steps_of demands)
    unfolding state_row
    ran_last width links row n e =
        e
        ∙ ap (λ (x : ℕ). rest_row width x (state_in 2 state)) n
        ∙ row_same width (links_of corridor) _ _ _ _ _ _
        (λ i b. ap (λ (x : List ℕ). state_in 2 x i) ran_state_lem ∙ rest_state (links_of corridor) _ i b) (λ i b. refl) (λ i b. refl)

module _ (width : ℕ) (corridor demands plan : List ℕ) where
  -- ---- the record's rows, row by row

  abbrev pub run_word : ℕ → ℕ → ℕ
  run_word k = cell width (trace_word (road_of corridor demands) (run (road_of corridor demands) (plan_of (road_of corridor demands) plan)) k)

  -- row k is lent, and comes back as the row of step k, or of state K
  pub run_row : (k w m at : ℕ) (d l ys : List ℕ) → Rowed k m w run_word d l → k < steps_of demands → k < m → w ≡ suc (links_of corridor) * width → at ≡ k * w
      → ys ≡ step_row width corridor demands plan k → Rowed (k + 1) m w run_word d (put_mid at (at + w - at) l ys)
  unfolding step_row row_of road_of run
  run_row k w m at d l ys r h b e q y =
      rowed_words k m w run_word d l at width (suc (links_of corridor)) _ ys r b q y e
      (λ j c.
      cell_same width (suc (links_of corridor)) _ (trace_word (road_of corridor demands) (run (road_of corridor demands) (plan_of (road_of corridor demands) plan)) k)
      (λ i p hi hp.
      ap (λ (x : Flows). node_word (state_at (road_of corridor demands) (plan_of (road_of corridor demands) plan) k i) x (exit x.main ((road_of corridor demands).split k i)) p)
      (sym (run_flows (road_of corridor demands) (plan_of (road_of corridor demands) plan) k i h)))
      j (omega arith))

  -- t is K as the code has it
  pub run_last_row : (k t w m at : ℕ) (d l ys : List ℕ) → Rowed k m w run_word d l → k ≡ t → t ≡ steps_of demands → t < m → w ≡ suc (links_of corridor) * width → at ≡ t * w
      → ys ≡ state_row width corridor demands plan (steps_of demands) → Rowed (t + 1) m w run_word d (put_mid at (at + w - at) l ys)
  unfolding state_row row_of road_of run no_flow
  run_last_row k t w m at d l ys r g h b e q y =
      rowed_words t m w run_word d l at width (suc (links_of corridor)) _ ys (subst (λ (x : ℕ). Rowed x m w run_word d l) g r) b q
      (y ∙ ap (λ (j : ℕ). state_row width corridor demands plan j) (sym h)) e
      (λ j c.
      cell_same width (suc (links_of corridor)) _ (trace_word (road_of corridor demands) (run (road_of corridor demands) (plan_of (road_of corridor demands) plan)) t)
      (λ i p hi hp.
      let none : no_flow ≡ (run (road_of corridor demands) (plan_of (road_of corridor demands) plan)).flows t i =
      sym (ap (λ (x : ℕ). (run (road_of corridor demands) (plan_of (road_of corridor demands) plan)).flows x i) h ∙ run_last (road_of corridor demands) (plan_of (road_of corridor demands) plan) i) in
      λ z.
      node_word (state_at (road_of corridor demands) (plan_of (road_of corridor demands) plan) t i) (none z)
      (sym (exit_of_none _ ((road_of corridor demands).split t i) (ap (λ (x : Flows). x.main) (sym none))) z) p)
      j (omega arith))

  pub run_words_lem : (k w m : ℕ) (d l : List ℕ) → Rowed k m w run_word d l → m ≤ k → m ≡ suc (steps_of demands) → w ≡ suc (links_of corridor) * width → l ≡ run_words width corridor demands plan
  unfolding run_words trace_words road_of
  run_words_lem k w m d l r h e q =
      rowed_grid k m w width (suc (links_of corridor)) (trace_word (road_of corridor demands) (run (road_of corridor demands) (plan_of (road_of corridor demands) plan))) d l r q h
      ∙ ap (λ (x : ℕ). grid width (suc (links_of corridor)) x (trace_word (road_of corridor demands) (run (road_of corridor demands) (plan_of (road_of corridor demands) plan)))) e

  pub step_row_fits : (k : ℕ) (row : List ℕ) → row ≡ step_row width corridor demands plan k → RowFits width row (links_of corridor)
  unfolding step_row
  step_row_fits k row e = ap length e ∙ row_length width (links_of corridor) _ _ _

-- ---- the cost after the rows

-- width, links and steps are as calls gave them
module _ (corridor demands d : List ℕ) (links steps width : ℕ) (n : links ≡ links_of corridor) (k : steps ≡ steps_of demands) (w : width ≡ record_width links steps (length d))
    (h : length d ≡ record_length (width_of corridor demands (length d)) (links_of corridor) (steps_of demands)) where
  told_width : width ≡ width_of corridor demands (length d)
  told_width = width_told corridor demands links steps (length d) width n k w

  pub record_room : length d ≡ record_length width (links_of corridor) (steps_of demands)
  record_room = h ∙ ap (λ (x : ℕ). record_length x (links_of corridor) (steps_of demands)) (sym told_width)

  pub record_is_written : (plan g : List ℕ) (total : ℕ) → RanAll width corridor demands plan g total
      → set (set (g ++ drop (length d - 2) d) (length d - 2) (total % 4294967296)) (length d - 2 + 1) (total / 4294967296)
      ≡ simulated (width_of corridor demands (length d)) corridor demands plan
  unfolding simulated record_words run_words run_cost road_of
  record_is_written plan g total ran =
      let fits : length g ≡ length d - 2 = ap length ran.written ∙ trace_length_lem _ _ _ ∙ omega (arith, record_room) in
      two_after g d (length d - 2) (total % 4294967296) (total / 4294967296) fits (omega (arith, record_room))
      ∙ ap (λ (x : List ℕ). x ++ low_high total) ran.written
      ∙ ap (λ (x : ℕ). run_words width corridor demands plan ++ low_high x) ran.adds
      ∙ ap (λ (x : ℕ). simulated x corridor demands plan) told_width
