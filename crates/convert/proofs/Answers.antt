-- Laws of the whole answers, in the shape of what the code returns, and what the refusals before a call leave for it.
use Prim.Native.Nat.{ℕ, suc, ◌+◌, ◌*◌, ◌≤◌, ◌<◌}
use mathlib.Core.Bool.{Bool, true, false, ◌&&◌}
use mathlib.Core.List.{List, []}
use mathlib.Core.Path.{◌≡◌, refl, sym, ap, ap₂, subst, ◌∙◌}
use native.Mathlib.Numerals.{add-one}
use native.Mathlib.Omega.{arith}
use lib.ListN.{length, get_or}
use lib.Dec.{eqb}
use Rattle.tables.specs.Answer.{Answer}
use Rattle.tables.specs.Answer.{Accepted}
use Rattle.tables.specs.Answer.{or_else, refusal, sized}
use Rattle.tables.proofs.Answers.{Refuses, or_else_accepts, or_else_stop, or_else_next, sized_iff, sized_refuses}
use Rattle.tables.proofs.Tests.{and_iff}
use Rattle.tables.proofs.First.{Passed, passed_begun, passed_told, passed_stop}
use Rattle.tables.proofs.Sum.{Summed, summed_begun, summed_more, summed_ended, sum_same}
use Rattle.road.specs.Corridor.{NodeState}
use Rattle.road.specs.Run.{cost}
use Rattle.record_faults.specs.Records.{fixed_fault, total_fault}
use Rattle.faults.proofs.Tests.{both_hold}
use Rattle.lists.specs.Words.{links_of, steps_of, road_of, Width, trace_of, exits_of, trace_length, plan_length, record_length, width_of}
use Rattle.lists.specs.Rows.{lent}
use Rattle.lengths.specs.Lengths.{record_sized, sizes}
use Rattle.list_scans.specs.Refusals.{ranges}
use Rattle.lengths.proofs.Sizes.{Sizes, sizes_iff, corridor_fits_lem, demands_fit_lem, record_wide, record_sized_iff}
use Rattle.list_scans.proofs.Limits.{ranges_iff}
use Rattle.simulate_rows.specs.Rows.{row_cost}
use Rattle.convert.specs.Refusals.{cost_fault, judged}
use Rattle.convert.specs.Convert.{record_refusal, record_answer, check_answer, convert_answer}
use Rattle.convert_rows.specs.Rows.{bare_road}
use Rattle.convert.specs.Rows.{fixed_refusal, step_refusal, steps_refusal, state_cost_at, cost_in, cost_refusal, Ready}
use Rattle.convert.proofs.Rows.{TraceRow, trace_row_lem}

-- ---- 13: the cost row by row

-- v is the sum of a row, as a call gave it of a view with l for N and w for the width
pub row_cost_told : (width w links l steps k v : ℕ) (words row : List ℕ) → Width width → w ≡ width → l ≡ links
    → row ≡ lent ((k + 1) * (suc l * width)) (suc l * width) words → v ≡ row_cost w links row → v ≡ state_cost_at width links steps words k
unfolding row_cost bare_road
row_cost_told width w links l steps k v words row wide p n q e =
    let told : row ≡ lent (suc k * (suc links * width)) (suc links * width) words =
    q ∙ ap₂ (λ (j x : ℕ). lent (j * (suc x * width)) (suc x * width) words) (add-one k) n in
    let states : TraceRow width links (trace_of width (bare_road [] links steps) words) (exits_of width (bare_road [] links steps) words) (suc k)
    (lent (suc k * (suc links * width)) (suc links * width) words) =
    trace_row_lem width (bare_road [] links steps) words (suc k) (suc k * (suc links * width)) (suc links * width) wide refl refl in
    e
    ∙ ap₂ (λ (x : ℕ) (r : List ℕ). row_cost x links r) p told
    ∙ sum_same (suc links) _ _ (λ i l. ap (λ (s : NodeState). s.vehicles + s.queue) (states.state i (omega arith)))

-- v is the number as the code has it, `at` where the cost's words start, and a the answer that is made of v
pub cost_told : (width links steps at total v : ℕ) (words : List ℕ) (a : Answer) → v ≡ total_fault total (get_or words at 0) (get_or words (at + 1) 0)
    → at ≡ trace_length width links steps → total ≡ cost_in width links steps words → a ≡ refusal v 0 0
    → a ≡ cost_refusal width links steps words
unfolding cost_fault bare_road
cost_told width links steps at total v words a e h t q =
    q ∙ ap (λ (x : ℕ). refusal x 0 0) (e ∙ ap₂ (λ (m n : ℕ). total_fault m (get_or words n 0) (get_or words (n + 1) 0)) t h)

-- ---- 8 to 12 and the cost, as a loop's invariant: no step before k has a fault, and `total` is the vehicles and queues of the states after them

pub record Scanning (width k : ℕ) (corridor demands words : List ℕ) (links steps total : ℕ) : Type 0 where
  pub passed : Passed k steps (step_refusal width corridor demands links words)
  pub summed : Summed k steps 558345748350 (state_cost_at width links steps words) total

pub scanning_begun : (width : ℕ) (corridor demands words : List ℕ) (links steps : ℕ) → Scanning width 0 corridor demands words links steps 0
scanning_begun width corridor demands words links steps = record { passed = passed_begun _ _; summed = summed_begun _ _ _ }

module _ (width k : ℕ) (corridor demands words : List ℕ) (links steps total : ℕ) (s : Scanning width k corridor demands words links steps total) where
  -- a is the answer of step k, and v the vehicles and queues of state k + 1
  module _ (h : k < steps) (a : Answer) (e : a ≡ step_refusal width corridor demands links words k) where
    pub scanning_more : (v : ℕ) → a ≡ Accepted → (v ≡ state_cost_at width links steps words k) × (v ≤ 558345748350)
        → Scanning width (k + 1) corridor demands words links steps (total + v)
    scanning_more v f c =
        record { passed = passed_told _ _ _ a s.passed h e f; summed = summed_more _ _ _ _ _ v s.summed h c.0 c.1 }

    pub scanning_stop : Refuses a → a ≡ steps_refusal width corridor demands links words steps
    scanning_stop r = passed_stop _ _ _ a s.passed h e r

  pub scanning_ended : steps ≤ k → total ≡ cost_in width links steps words
  unfolding cost bare_road
  scanning_ended h = summed_ended _ _ _ _ _ s.summed h

-- ---- 7 to 13, where links and steps are N and K as the code has them

module _ (width : ℕ) (corridor demands words : List ℕ) (links steps : ℕ) (ready : Ready width corridor demands words links steps) where
  judged_are : or_else (fixed_refusal width corridor links steps words)
      (or_else (steps_refusal width corridor demands links words steps) (refusal (cost_fault width (bare_road [] links steps) words) 0 0))
      ≡ judged width (road_of corridor demands) words
  unfolding judged fixed_fault cost_fault cost bare_road road_of trace_of
  judged_are =
      ap₂
      (λ (l s : ℕ).
      or_else (fixed_refusal width corridor l s words) (or_else (steps_refusal width corridor demands l words s) (refusal (cost_fault width (bare_road [] l s) words) 0 0)))
      ready.corridor_fits.first ready.demands_fit.first

  -- a is the first scan's answer, b the second's, c the third's
  pub judged_fixed : (a : Answer) → a ≡ fixed_refusal width corridor links steps words → Refuses a → a ≡ judged width (road_of corridor demands) words
  judged_fixed a e h = or_else_stop a _ _ e h ∙ judged_are

  pub judged_steps : (a b : Answer) → a ≡ fixed_refusal width corridor links steps words → a ≡ Accepted
      → b ≡ steps_refusal width corridor demands links words steps → Refuses b → b ≡ judged width (road_of corridor demands) words
  judged_steps a b e h q p = or_else_next a b _ _ e h (or_else_stop b _ _ q p) ∙ judged_are

  pub judged_cost : (a b c : Answer) → a ≡ fixed_refusal width corridor links steps words → a ≡ Accepted → b ≡ steps_refusal width corridor demands links words steps → b ≡ Accepted
      → c ≡ cost_refusal width links steps words → c ≡ judged width (road_of corridor demands) words
  judged_cost a b c e h q p t = or_else_next a c _ _ e h (or_else_next b c _ _ q p t) ∙ judged_are

-- ---- what 1 to 5 leave: a is their answer as the code has it

pub ready : (corridor demands words : List ℕ) (a : Answer) → sizes corridor demands ≡ true → length words ≡ record_length (width_of corridor demands (length words)) (links_of corridor) (steps_of demands)
    → a ≡ ranges (road_of corridor demands) → a ≡ Accepted → Ready (width_of corridor demands (length words)) corridor demands words (links_of corridor) (steps_of demands)
unfolding road_of
ready corridor demands words a s l e h =
    let z : Sizes corridor demands = (sizes_iff corridor demands).0 s in
    record {
      corridor_fits = corridor_fits_lem corridor demands (links_of corridor) s refl;
      demands_fit = demands_fit_lem corridor demands (links_of corridor) (steps_of demands) s refl refl;
      record_fits = l;
      wide = record_wide (links_of corridor) (steps_of demands) (length words);
      limits = (ranges_iff (road_of corridor demands) z.links z.steps).0 (sym e ∙ h);
    }

-- ---- the tests of the lengths

abbrev pub record_test : List ℕ → List ℕ → ℕ → Bool
record_test corridor demands count = sizes corridor demands && record_sized (links_of corridor) (steps_of demands) count

-- N and K in range, and the lent plan of the right length
abbrev pub room_test : List ℕ → List ℕ → ℕ → Bool
room_test corridor demands room = sizes corridor demands && eqb room (plan_length (links_of corridor) (steps_of demands))

-- ---- the checker: f and a are what the test of the lengths answered, as a test and as an answer

module _ (corridor demands words : List ℕ) (f : Bool) (s : f ≡ record_test corridor demands (length words)) (a : Answer) (e : a ≡ sized f) where
  pub check_sized : Refuses a → a ≡ check_answer corridor demands words
  unfolding check_answer
  check_sized r = or_else_stop a _ _ (e ∙ ap sized s) r

  pub check_asks : a ≡ Accepted → length words ≡ record_length (width_of corridor demands (length words)) (links_of corridor) (steps_of demands)
  check_asks g =
      ((both_hold _ _ (λ x. x, λ x. x) (record_sized_iff (links_of corridor) (steps_of demands) (length words))).0
      (sym s ∙ (sized_iff f).0 (sym e ∙ g))).1

  pub check_rest : (b : Answer) → a ≡ Accepted → b ≡ record_refusal corridor demands words
      → b ≡ check_answer corridor demands words
  unfolding check_answer
  check_rest b g q = or_else_next a b _ _ (e ∙ ap sized s) g q

-- ---- a call with one more test among those of 1: first this one with N, K and two lengths, then what the checker answers

-- of three tests, the first and the last
ends_fail : (s w r : Bool) → (s && r) ≡ false → (s && (w && r)) ≡ false
ends_fail false w r e = refl
ends_fail true false r e = refl
ends_fail true true r e = e

ends_hold : (s w r : Bool) → (s && r) ≡ true → (s && (w && r)) ≡ (s && w)
ends_hold false w r e = refl
ends_hold true false r e = refl
ends_hold true true r e = e

-- f and a are what the first tests answered, as a test and as an answer, and b what the checker answered
module _ (corridor demands words : List ℕ) (also f : Bool) (s : f ≡ (sizes corridor demands && also)) (a : Answer) (e : a ≡ sized f) where
  also_told : a ≡ Accepted → (sizes corridor demands && also) ≡ true
  also_told g = sym s ∙ (sized_iff f).0 (sym e ∙ g)

  pub also_sized : Refuses a → a ≡ record_answer also corridor demands words
  also_sized r =
      let no : f ≡ false = sized_refuses f (subst Refuses e r) in
      let q = ends_fail (sizes corridor demands) (record_sized (links_of corridor) (steps_of demands) (length words)) also (sym s ∙ no) in
      or_else_stop a _ _ (e ∙ ap sized (no ∙ sym q)) r

  pub also_checks : (b : Answer) → a ≡ Accepted → b ≡ check_answer corridor demands words → b ≡ record_answer also corridor demands words
  unfolding check_answer
  also_checks b g q =
      let h = ends_hold (sizes corridor demands) (record_sized (links_of corridor) (steps_of demands) (length words)) also (also_told g) in
      q ∙ ap (λ (x : Bool). or_else (sized x) (record_refusal corridor demands words)) (sym h)

-- what an accepted answer leaves
pub also_kept : (corridor demands words : List ℕ) (also : Bool) → record_answer also corridor demands words ≡ Accepted
    → Ready (width_of corridor demands (length words)) corridor demands words (links_of corridor) (steps_of demands)
    × (judged (width_of corridor demands (length words)) (road_of corridor demands) words ≡ Accepted)
    × (also ≡ true)
also_kept corridor demands words also e =
    let (fit, rest) =
    (or_else_accepts (sized (sizes corridor demands && (record_sized (links_of corridor) (steps_of demands) (length words) && also))) _).0 e in
    let (s, more) = (and_iff (sizes corridor demands) _).0 ((sized_iff _).0 fit) in
    let (l, last) = (and_iff (record_sized (links_of corridor) (steps_of demands) (length words)) also).0 more in
    let (r, j) = (or_else_accepts (ranges (road_of corridor demands)) _).0 rest in (
      ready corridor demands words (ranges (road_of corridor demands)) s
          ((record_sized_iff (links_of corridor) (steps_of demands) (length words)).0 l) refl r,
      j,
      last,
    )

-- ---- the converter: whether the lent plan has its length

module _ (corridor demands words : List ℕ) (room : ℕ) (f : Bool) (s : f ≡ room_test corridor demands room) (a : Answer) (e : a ≡ sized f) where
  pub convert_sized : Refuses a → a ≡ convert_answer corridor demands words room
  unfolding convert_answer
  convert_sized r = also_sized corridor demands words _ f s a e r

  pub convert_checks : (b : Answer) → a ≡ Accepted → b ≡ check_answer corridor demands words → b ≡ convert_answer corridor demands words room
  unfolding convert_answer
  convert_checks b g q = also_checks corridor demands words _ f s a e b g q

  -- what is left for the writing of the plan
  pub plan_asks : (b : Answer) → a ≡ Accepted → b ≡ check_answer corridor demands words → b ≡ Accepted
      → Ready (width_of corridor demands (length words)) corridor demands words (links_of corridor) (steps_of demands)
      × (judged (width_of corridor demands (length words)) (road_of corridor demands) words ≡ Accepted)
  plan_asks b g q z =
      let (k, j, _) = also_kept corridor demands words _ (sym (also_checks corridor demands words _ f s a e b g q) ∙ z) in
      (k, j)
