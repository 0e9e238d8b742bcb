-- Records as word lists: a plan's record keeps all but 12, and words that keep 7 to 13 are the record of the converter's plan for them.
use Prim.Native.Nat.{ℕ, zero, ◌≤◌, ◌<◌}
use mathlib.Core.Bool.{true}
use mathlib.Core.List.{List}
use mathlib.Core.Logic.{⊎_elim}
use mathlib.Core.Path.{◌≡◌, refl, sym, ap, subst, subst₂, ◌∙◌}
use native.Mathlib.Omega.{arith}
use lib.ListN.{length}
use Rattle.std.specs.Prelude.{Option}
use Rattle.tables.proofs.Numbers.{le_or_lt}
use Rattle.road.specs.declared.Units.{Units}
use Rattle.road.specs.Corridor.{Road, Plan, Flows, Trace}
use Rattle.road.specs.Step.{exit}
use Rattle.road.specs.Run.{junction, no_flow, run, cost}
use Rattle.road.specs.Limits.{Limits, Bounded}
use Rattle.road.proofs.Rules.{exit_of_none}
use Rattle.road.proofs.Same.{SameTraces, same_traces_back, cost_same}
use Rattle.road.proofs.Zeros.{run_last_exit, run_entry_exit, run_end_exit}
use Rattle.settings.specs.Share.{IsSetting}
use Rattle.record_faults.specs.Records.{exit_kept}
use Rattle.lists.specs.Words.{plan_of, plan_words, Width, trace_of, exits_of, exit_at, record_words, record_length}
use Rattle.lists.proofs.Words.{CostWords, plan_read, record_cost, record_read, record_exits, record_same, ExitsRight, record_written}
use Rattle.convert.specs.Convert.{plan_for}
use Rattle.convert.proofs.Facts.{Moves, ExitsKept, QueuesHeld, Keeps}
use Rattle.convert.proofs.Kept.{queue_kept}
use Rattle.convert.proofs.Runs.{run_moves, moves_same}
use Rattle.convert.proofs.Plans.{plan_named, named_bounded, named_run}

-- a record's own cost is right
pub record_costs : (width : ℕ) (road : Road) (trace : Trace) → Width width → CostWords width road (record_words width road trace) (cost road (trace_of width road (record_words width road trace)))
record_costs width road trace wide =
    subst (λ (total : ℕ). CostWords width road (record_words width road trace) total) (sym (cost_same road _ _ (record_read width road trace wide))) (record_cost width road trace)

-- the converter's plan, as it is read from its list
abbrev pub returned : ℕ → Road → List ℕ → Plan
returned width road words = plan_of road (plan_words road (plan_for road (trace_of width road words)))

-- what a record says of its exits, where 7 and 11 are kept: at every state and node that of its f
pub exits_right : (width : ℕ) (road : Road) (words : List ℕ) → Moves road (trace_of width road words) → ExitsKept road (trace_of width road words) (exits_of width road words)
    → ExitsRight width road words
unfolding no_flow
exits_right width road words m x k i hk hi =
    ⊎_elim
    (λ (g : road.steps ≤ k).
    let e : k ≡ road.steps = omega arith in
    subst (λ (y : ℕ). exit_kept (exits_of width road words k i) y ≡ true)
    (sym (exit_of_none _ (road.split k i) (ap (λ (f : Flows). f.main) ((m.fixed k i hk hi).last e)))) ((x.none k i hk hi).last e))
    (λ (g : k < road.steps). x.right k i g hi)
    (le_or_lt road.steps k)

module _ (width : ℕ) (wide : Width width) (road : Road) (limits : Limits road) where
  -- ---- the record of a plan within bounds keeps 7 to 11

  pub record_moves : (plan : Plan) → Bounded road plan → Moves road (trace_of width road (record_words width road (run road plan)))
  record_moves plan bounded =
      moves_same road (run road plan) (trace_of width road (record_words width road (run road plan)))
      (same_traces_back road _ _ (record_read width road (run road plan) wide))
      (run_moves road limits plan bounded)

  -- and so do its exits
  pub record_exits_kept : (plan : Plan) → ExitsKept road (trace_of width road (record_words width road (run road plan))) (exits_of width road (record_words width road (run road plan)))
  record_exits_kept plan =
      record {
        none =
            λ k i hk hi.
            record {
              last = λ e. zero_said k i hk hi (ap (λ (h : ℕ). exit_at road (run road plan) h i) e ∙ run_last_exit road limits plan i);
              entry = λ e. zero_said k i hk hi (ap (λ (j : ℕ). exit_at road (run road plan) k j) e ∙ run_entry_exit road limits plan k hk);
              end = λ e. zero_said k i hk hi (ap (λ (j : ℕ). exit_at road (run road plan) k j) e ∙ run_end_exit road limits plan k hk);
            };
        right =
            λ k i hk hi.
            subst (λ (f : Flows). exit_kept (said k i) (exit f.main (road.split k i)) ≡ true) (sym (read k i (omega arith) hi).flows) (record_exits width road (run road plan) wide k i (omega arith) hi);
      }
    where
      said : ℕ → ℕ → Option Units
      said = exits_of width road (record_words width road (run road plan))

      read : SameTraces road (trace_of width road (record_words width road (run road plan))) (run road plan)
      read = record_read width road (run road plan) wide

      zero_said : (k i : ℕ) → k ≤ road.steps → i ≤ road.links → exit_at road (run road plan) k i ≡ 0 → exit_kept (said k i) 0 ≡ true
      zero_said k i hk hi e = subst (λ (x : ℕ). exit_kept (said k i) x ≡ true) e (record_exits width road (run road plan) wide k i hk hi)

  -- where 12 is kept too, every queue is within its limit, the start's included
  pub queues_within : (trace : Trace) → Moves road trace → QueuesHeld road trace
      → (k i : ℕ) → k ≤ road.steps → i ≤ road.links → (trace.state k i).queue ≤ (road.node i).ramp.queue_limit
  queues_within trace moves held k i hk hi =
      queue_kept road limits trace (λ j hj. (moves.fixed zero j (omega arith) hj).first refl) k (λ h j a b. held h j (omega arith) b) i hi

  -- ---- the converter's plan for words that keep 7 to 13

  module _ (words : List ℕ) (keeps : Keeps width road words) where
    pub returned_named : (k i : ℕ) → k < road.steps → i ≤ road.links
        → IsSetting (junction road k ((trace_of width road words).state k) i) ((trace_of width road words).flows k i) ((returned width road words).rate k i) ((returned width road words).limit k i)
    returned_named k i hk hi =
        let same = plan_read road (plan_for road (trace_of width road words)) k i hk hi in
        subst₂ (λ (rate limit : ℕ). IsSetting (junction road k ((trace_of width road words).state k) i) ((trace_of width road words).flows k i) rate limit)
        (sym same.rate) (sym same.limit)
        (plan_named road limits (trace_of width road words) keeps.moves k i hk hi)

    pub returned_bounded : Bounded road (returned width road words)
    returned_bounded = named_bounded road limits (trace_of width road words) keeps.moves (returned width road words) returned_named

    -- it has the record, in every word
    pub returned_record : length words ≡ record_length width road.links road.steps → record_words width road (run road (returned width road words)) ≡ words
    returned_record fits =
        record_same width road (run road (returned width road words)) (trace_of width road words) (named_run road limits (trace_of width road words) keeps.moves (returned width road words) returned_named)
        ∙ sym (record_written width road words wide fits (exits_right width road words keeps.moves keeps.exits) keeps.costs)
