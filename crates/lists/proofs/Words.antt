-- Laws of the word lists of a plan and of a record: their lengths, and that what is written is read back and what is read is written back.
use Prim.Native.Nat.{ℕ, zero, suc, ◌+◌, ◌/◌, ◌%◌, ◌≤◌, ◌<◌}
use mathlib.Core.List.{List, ◌++◌}
use mathlib.Core.Bool.{Bool, true, false, cond}
use mathlib.Core.Path.{◌≡◌, refl, sym, ap, subst, ◌∙◌}
use mathlib.Core.Logic.{⊎_elim}
use native.Mathlib.Nat.{add-zero}
use native.Mathlib.Omega.{arith}
use lib.ListN.{length, get_or, length-append}
use lib.Seq.{ext_get_or}
use borrow.Author.Tests.{lt-ltb, ltb-true, eq-eqb, eqb-true}
use lib.Dec.{ltb}
use Rattle.tables.specs.Grid.{place}
use Rattle.tables.proofs.Numbers.{le_or_lt}
use Rattle.tables.proofs.Grid.{each_place, grid_length, grid_at, grid_is, grid_same, before_rest, at_rest, each_with_rest}
use Rattle.std.specs.Prelude.{Some, None}
use Rattle.road.specs.Corridor.{NodeState, Road, Plan, Flows, Trace, nodes}
use Rattle.road.specs.Step.{exit}
use Rattle.road.specs.Run.{cost}
use Rattle.road.proofs.Rules.{flows_eq, state_eq}
use Rattle.road.proofs.Same.{SameSetting, SamePlans, SamePlace, SameTraces, cost_same}
use Rattle.record_faults.specs.Records.{exit_kept}
use Rattle.lists.specs.Words.{plan_of, plan_word, plan_words, plan_length, Width, trace_of, exit_said, exits_of, exit_at, trace_word, node_word, trace_words, low_high, record_words, trace_length, record_length}

-- ---- a plan

pub plan_length_lem : (road : Road) (plan : Plan) → length (plan_words road plan) ≡ plan_length road.links road.steps
unfolding plan_words
plan_length_lem road plan = grid_length 2 (nodes road) road.steps (plan_word plan)

-- what is written is read back
pub plan_read : (road : Road) (plan : Plan) → SamePlans road (plan_of road (plan_words road plan)) plan
unfolding plan_of plan_words plan_word
plan_read road plan k i hk hi =
    record {
      rate = grid_at 2 (nodes road) road.steps (plan_word plan) k i 0 0 hk (omega arith) (omega arith);
      limit = grid_at 2 (nodes road) road.steps (plan_word plan) k i 1 0 hk (omega arith) (omega arith);
    }

-- plans that agree have one list
pub plan_same : (road : Road) (plan other : Plan) → SamePlans road plan other → plan_words road plan ≡ plan_words road other
unfolding plan_words plan_word
plan_same road plan other e =
    grid_same 2 (nodes road) road.steps (plan_word plan) (plan_word other) (λ k i q hk hi hq. word k i q (e k i hk (omega arith)))
  where
    word : (k i q : ℕ) → SameSetting plan other k i → plan_word plan k i q ≡ plan_word other k i q
    word k i zero s = s.rate
    word k i (suc q) s = s.limit

-- a list whose words are right is the plan's
pub plan_is : (road : Road) (plan : Plan) (words : List ℕ) → length words ≡ plan_length road.links road.steps
    → ((k i q : ℕ) → k < road.steps → i ≤ road.links → q < 2 → get_or words (place 2 (nodes road) k i q) 0 ≡ plan_word plan k i q) → words ≡ plan_words road plan
unfolding plan_words
plan_is road plan words fits right =
    grid_is 2 (nodes road) road.steps (plan_word plan) words fits (λ k i q hk hi hq. right k i q hk (omega arith) hq)

-- what is read is written back
pub plan_written_lem : (road : Road) (words : List ℕ) → length words ≡ plan_length road.links road.steps → words ≡ plan_words road (plan_of road words)
unfolding plan_of plan_word
plan_written_lem road words fits = plan_is road (plan_of road words) words fits (λ k i q hk hi hq. word k i q hq)
  where
    word : (k i q : ℕ) → q < 2 → get_or words (place 2 (nodes road) k i q) 0 ≡ plan_word (plan_of road words) k i q
    word k i zero h = refl
    word k i (suc zero) h = refl
    word k i (suc (suc q)) h = absurd (omega arith)

-- ---- a record

-- a record's kind, by what it says of an exit: the word is the right one exactly where that is kept
said_right : (width word right : ℕ) → Width width → (4 < width → word ≡ right) → exit_kept (exit_said width word) right ≡ true
unfolding exit_said
said_right width word right w h = by_width (ltb 4 width) refl
  where
    by_width : (t : Bool) → ltb 4 width ≡ t → exit_kept (cond t (Some (record { 0 = word })) None) right ≡ true
    by_width true e = eq-eqb word right (h (ltb-true 4 width e))
    by_width false e = refl

pub right_said : (width word right : ℕ) → 4 < width → exit_kept (exit_said width word) right ≡ true → word ≡ right
unfolding exit_said
right_said width word right h e =
    eqb-true word right (subst (λ (t : Bool). exit_kept (cond t (Some (record { 0 = word })) None) right ≡ true) (lt-ltb 4 width h) e)

pub trace_length_lem : (width : ℕ) (road : Road) (trace : Trace) → length (trace_words width road trace) ≡ trace_length width road.links road.steps
unfolding trace_words
trace_length_lem width road trace = grid_length width (nodes road) (suc road.steps) (trace_word road trace)

pub record_length_lem : (width : ℕ) (road : Road) (trace : Trace) → length (record_words width road trace) ≡ record_length width road.links road.steps
unfolding record_words
record_length_lem width road trace = length-append (trace_words width road trace) (low_high (cost road trace)) ∙ ap (λ (n : ℕ). n + 2) (trace_length_lem width road trace)

-- the two last words of a record are a cost as low and high 32 bits
pub record CostWords (width : ℕ) (road : Road) (words : List ℕ) (total : ℕ) : Type 0 where
  pub low : get_or words (trace_length width road.links road.steps) 0 ≡ total % 4294967296
  pub high : get_or words (trace_length width road.links road.steps + 1) 0 ≡ total / 4294967296

module _ (width : ℕ) (road : Road) (trace : Trace) where
  at_cost : (q : ℕ) → get_or (record_words width road trace) (trace_length width road.links road.steps + q) 0 ≡ get_or (low_high (cost road trace)) q 0
  unfolding record_words trace_words
  at_cost q = at_rest width (nodes road) (suc road.steps) (trace_word road trace) (low_high (cost road trace)) q

  pub record_cost : CostWords width road (record_words width road trace) (cost road trace)
  record_cost =
      record {
        low = ap (λ (n : ℕ). get_or (record_words width road trace) n 0) (sym (add-zero (trace_length width road.links road.steps))) ∙ at_cost 0;
        high = at_cost 1;
      }

  pub record_at : (k i q : ℕ) → k ≤ road.steps → i ≤ road.links → q < width → get_or (record_words width road trace) (place width (nodes road) k i q) 0 ≡ trace_word road trace k i q
  unfolding record_words trace_words
  record_at k i q hk hi hq =
      before_rest width (nodes road) (suc road.steps) (trace_word road trace) (low_high (cost road trace)) k i q (omega arith) (omega arith) hq

  -- what is written is read back
  pub record_read : Width width → SameTraces road (trace_of width road (record_words width road trace)) trace
  unfolding trace_of node_word
  record_read w k i hk hi =
      record {
        state = state_eq _ _ (record_at k i 0 hk hi (omega arith)) (record_at k i 1 hk hi (omega arith));
        flows = flows_eq _ _ (record_at k i 2 hk hi (omega arith)) (record_at k i 3 hk hi (omega arith));
      }

  -- and so is each exit, where the record has the word
  pub record_exits : Width width → (k i : ℕ) → k ≤ road.steps → i ≤ road.links → exit_kept (exits_of width road (record_words width road trace) k i) (exit_at road trace k i) ≡ true
  unfolding node_word
  record_exits w k i hk hi = said_right width _ _ w (λ h. record_at k i 4 hk hi (omega arith))

  -- what holds of the words of states 0..K, of the cost's two words and of 0 holds of each word
  pub record_each : (P : ℕ → Type 0) → ((k i q : ℕ) → k ≤ road.steps → i ≤ road.links → q < width → P (trace_word road trace k i q))
      → P (cost road trace % 4294967296) → P (cost road trace / 4294967296) → P 0 → (j : ℕ) → P (get_or (record_words width road trace) j 0)
  unfolding record_words trace_words
  record_each P inside low high past =
      each_with_rest width (nodes road) (suc road.steps) (trace_word road trace) (low_high (cost road trace)) P
      (λ k i q hk hi hq. inside k i q (omega arith) (omega arith) hq)
      word
    where
      word : (q : ℕ) → P (get_or (low_high (cost road trace)) q 0)
      word zero = low
      word (suc zero) = high
      word (suc (suc q)) = past

-- a list whose words are right is the trace's record
pub record_is : (width : ℕ) (road : Road) (trace : Trace) (words : List ℕ) → length words ≡ record_length width road.links road.steps
    → ((k i q : ℕ) → k ≤ road.steps → i ≤ road.links → q < width → get_or words (place width (nodes road) k i q) 0 ≡ trace_word road trace k i q)
    → CostWords width road words (cost road trace) → words ≡ record_words width road trace
record_is width road trace words fits right costs =
    ext_get_or 0 words (record_words width road trace) (fits ∙ sym (record_length_lem width road trace))
    (λ j h.
    ⊎_elim
    (λ (g : trace_length width road.links road.steps ≤ j).
    ⊎_elim
    (λ (b : j ≤ trace_length width road.links road.steps).
    let e : trace_length width road.links road.steps ≡ j = omega arith in
    subst (λ (n : ℕ). get_or words n 0 ≡ get_or (record_words width road trace) n 0) e (costs.low ∙ sym (record_cost width road trace).low))
    (λ (b : trace_length width road.links road.steps < j).
    let e : trace_length width road.links road.steps + 1 ≡ j = omega arith in
    subst (λ (n : ℕ). get_or words n 0 ≡ get_or (record_words width road trace) n 0) e (costs.high ∙ sym (record_cost width road trace).high))
    (le_or_lt j (trace_length width road.links road.steps)))
    (λ (g : j < trace_length width road.links road.steps).
    each_place (λ j. get_or words j 0 ≡ get_or (record_words width road trace) j 0) width (nodes road) (suc road.steps)
    (λ k i q hk hi hq. right k i q (omega arith) (omega arith) hq ∙ sym (record_at width road trace k i q (omega arith) (omega arith) hq))
    j g)
    (le_or_lt (trace_length width road.links road.steps) j))

-- traces that agree have one record
pub record_same : (width : ℕ) (road : Road) (trace other : Trace) → SameTraces road trace other → record_words width road trace ≡ record_words width road other
unfolding record_words trace_words node_word
record_same width road trace other e =
    ap (λ (words : List ℕ). words ++ low_high (cost road trace))
    (grid_same width (nodes road) (suc road.steps) (trace_word road trace) (trace_word road other) (λ k i q hk hi hq. word k i q (e k i (omega arith) (omega arith))))
    ∙ ap (λ (total : ℕ). trace_words width road other ++ low_high total) (cost_same road trace other e)
  where
    word : (k i q : ℕ) → SamePlace trace other k i → trace_word road trace k i q ≡ trace_word road other k i q
    word k i zero s = ap (λ (x : NodeState). x.vehicles) s.state
    word k i (suc zero) s = ap (λ (x : NodeState). x.queue) s.state
    word k i (suc (suc zero)) s = ap (λ (x : Flows). x.main) s.flows
    word k i (suc (suc (suc zero))) s = ap (λ (x : Flows). x.ramp) s.flows
    word k i (suc (suc (suc (suc q)))) s = ap (λ (x : Flows). exit x.main (road.split k i)) s.flows

-- each exit that a record says is that of its f
abbrev pub ExitsRight : ℕ → Road → List ℕ → Type 0
ExitsRight width road words = (k i : ℕ) → k ≤ road.steps → i ≤ road.links → exit_kept (exits_of width road words k i) (exit_at road (trace_of width road words) k i) ≡ true

-- what is read is written back, where the length, the exits and the cost are right
pub record_written : (width : ℕ) (road : Road) (words : List ℕ) → Width width → length words ≡ record_length width road.links road.steps
    → ExitsRight width road words → CostWords width road words (cost road (trace_of width road words)) → words ≡ record_words width road (trace_of width road words)
unfolding trace_of node_word
record_written width road words w fits exits costs = record_is width road (trace_of width road words) words fits (λ k i q hk hi hq. word k i q hk hi hq) costs
  where
    word : (k i q : ℕ) → k ≤ road.steps → i ≤ road.links → q < width → get_or words (place width (nodes road) k i q) 0 ≡ trace_word road (trace_of width road words) k i q
    word k i zero hk hi h = refl
    word k i (suc zero) hk hi h = refl
    word k i (suc (suc zero)) hk hi h = refl
    word k i (suc (suc (suc zero))) hk hi h = refl
    word k i (suc (suc (suc (suc zero)))) hk hi h = right_said width _ _ (omega arith) (exits k i hk hi)
    word k i (suc (suc (suc (suc (suc q))))) hk hi h = absurd (omega (arith, w.most))
