-- Refusals 7 to 13 over a whole record as facts: accepted exactly where they hold; and what is left where 7 to 11 and 13 are not due.
use Prim.Native.Nat.{ℕ, suc, ◌+◌, ◌/◌, ◌%◌, ◌≤◌, ◌<◌}
use mathlib.Core.List.{List}
use mathlib.Core.Bool.{true}
use mathlib.Core.Path.{◌≡◌, ◌∙◌}
use mathlib.Core.Logic.{◌↔◌}
use native.Mathlib.Omega.{arith}
use lib.ListN.{get_or}
use Rattle.std.specs.Prelude.{Option}
use Rattle.tables.specs.Answer.{Accepted}
use Rattle.tables.specs.Answer.{refusal}
use Rattle.tables.specs.First.{first_place}
use Rattle.tables.proofs.Answers.{or_else_accepts, or_else_right, refusal_accepts}
use Rattle.tables.proofs.First.{first_place_accepts, first_place_same}
use Rattle.road.specs.declared.Units.{Units}
use Rattle.road.specs.Corridor.{Road, Trace, nodes}
use Rattle.road.specs.Run.{junction, next, cost}
use Rattle.record_faults.specs.Records.{exit_kept, total_fault}
use Rattle.faults.proofs.Tests.{eq_holds, both_hold, no_fault}
use Rattle.record_faults.proofs.Records.{Fixed, NoExit, fixed_iff, Stepped, queue_fault, queue_iff, step_iff, step_queue}
use Rattle.lists.specs.Words.{trace_of, exits_of, exit_at, trace_length}
use Rattle.lists.proofs.Words.{CostWords}
use Rattle.convert.specs.Refusals.{cost_fault, fixed_at, step_at, judged}

-- ---- 13. the cost

pub cost_iff : (width : ℕ) (road : Road) (words : List ℕ) → (cost_fault width road words ≡ 0) ↔ CostWords width road words (cost road (trace_of width road words))
unfolding cost_fault total_fault
cost_iff width road words =
    let total : ℕ = cost road (trace_of width road words) in
    let at : ℕ = trace_length width road.links road.steps in
    let r = no_fault _ 13 (λ e. omega arith)
    (both_hold _ _ (eq_holds (get_or words at 0) (total % 4294967296)) (eq_holds (get_or words (at + 1) 0) (total / 4294967296))) in
    (λ e. record { low = (r.0 e).0; high = (r.0 e).1 }, λ s. r.1 (s.low, s.high))

-- ---- over a whole record

-- a trace that keeps 7 to 11
pub record Moves (road : Road) (trace : Trace) : Type 0 where
  pub fixed : (k i : ℕ) → k ≤ road.steps → i ≤ road.links → Fixed road k i (trace.state k i) (trace.flows k i)
  pub steps : (k i : ℕ) → k < road.steps → i ≤ road.links
      → Stepped (junction road k (trace.state k) i) (trace.flows k i) (next road k (trace.state k) (trace.flows k) i) (trace.state (suc k) i)

-- what a record says of the exits keeps 7 and 11: none where zero is fixed, and that of its f in each step
pub record ExitsKept (road : Road) (trace : Trace) (said : ℕ → ℕ → Option Units) : Type 0 where
  pub none : (k i : ℕ) → k ≤ road.steps → i ≤ road.links → NoExit road k i (said k i)
  pub right : (k i : ℕ) → k < road.steps → i ≤ road.links → exit_kept (said k i) (exit_at road trace k i) ≡ true

-- 12: every queue after a step is within its limit
abbrev pub QueuesHeld : Road → Trace → Type 0
QueuesHeld road trace = (k i : ℕ) → k < road.steps → i ≤ road.links → (trace.state (suc k) i).queue ≤ (road.node i).ramp.queue_limit

-- a record that keeps 7 to 13
pub record Keeps (width : ℕ) (road : Road) (words : List ℕ) : Type 0 where
  pub moves : Moves road (trace_of width road words)
  pub exits : ExitsKept road (trace_of width road words) (exits_of width road words)
  pub queues : QueuesHeld road (trace_of width road words)
  pub costs : CostWords width road words (cost road (trace_of width road words))

pub fixed_all : (road : Road) (trace : Trace) (said : ℕ → ℕ → Option Units) → (first_place (suc road.steps) (nodes road) (fixed_at road trace said) ≡ Accepted)
    ↔ ((k i : ℕ) → k ≤ road.steps → i ≤ road.links → Fixed road k i (trace.state k i) (trace.flows k i) × NoExit road k i (said k i))
fixed_all road trace said =
    let r = first_place_accepts (suc road.steps) (nodes road) (fixed_at road trace said) in (
      λ e k i hk hi. (fixed_iff road k i (trace.state k i) (trace.flows k i) (said k i)).0 (r.0 e k i (omega arith) (omega arith)),
      λ s. r.1 (λ k i hk hi. (fixed_iff road k i (trace.state k i) (trace.flows k i) (said k i)).1 (s k i (omega arith) (omega arith))),
    )

-- of the first n steps
pub steps_all : (road : Road) (trace : Trace) (said : ℕ → ℕ → Option Units) (n : ℕ) → first_place n (nodes road) (step_at road trace said) ≡ Accepted
    → (k i : ℕ) → k < n → i ≤ road.links
    → Stepped (junction road k (trace.state k) i) (trace.flows k i) (next road k (trace.state k) (trace.flows k) i) (trace.state (suc k) i)
    × (exit_kept (said k i) (exit_at road trace k i) ≡ true)
    × ((trace.state (suc k) i).queue ≤ (road.node i).ramp.queue_limit)
unfolding junction
steps_all road trace said n e k i hk hi =
    (step_iff (junction road k (trace.state k) i) (trace.flows k i) (said k i) _ (trace.state (suc k) i)).0
    ((first_place_accepts n (nodes road) (step_at road trace said)).0 e k i hk (omega arith))

-- of a trace that keeps 7 to 11, what 8 to 12 find is what 12 finds
pub steps_queue : (road : Road) (trace : Trace) (said : ℕ → ℕ → Option Units) → Moves road trace → ExitsKept road trace said
    → first_place road.steps (nodes road) (step_at road trace said)
    ≡ first_place road.steps (nodes road) (λ k i. queue_fault (road.node i).ramp.queue_limit (trace.state (suc k) i).queue)
unfolding junction
steps_queue road trace said m x =
    first_place_same road.steps (nodes road) (step_at road trace said) (λ k i. queue_fault (road.node i).ramp.queue_limit (trace.state (suc k) i).queue)
    (λ k i hk hi. step_queue (junction road k (trace.state k) i) (trace.flows k i) (said k i) _ (trace.state (suc k) i) (m.steps k i hk (omega arith)) (x.right k i hk (omega arith)))

-- of a record that keeps 7 to 11 and 13, what is left is 12
pub judged_queue : (width : ℕ) (road : Road) (words : List ℕ) → Moves road (trace_of width road words) → ExitsKept road (trace_of width road words) (exits_of width road words)
    → CostWords width road words (cost road (trace_of width road words))
    → judged width road words
    ≡ first_place road.steps (nodes road) (λ k i. queue_fault (road.node i).ramp.queue_limit ((trace_of width road words).state (suc k) i).queue)
unfolding judged
judged_queue width road words m x c =
    let trace : Trace = trace_of width road words in
    let said : ℕ → ℕ → Option Units = exits_of width road words in
    let fixed : first_place (suc road.steps) (nodes road) (fixed_at road trace said) ≡ Accepted =
    (fixed_all road trace said).1 (λ k i hk hi. (m.fixed k i hk hi, x.none k i hk hi)) in
    let right : refusal (cost_fault width road words) 0 0 ≡ Accepted = (refusal_accepts (cost_fault width road words) 0 0).1 ((cost_iff width road words).1 c) in
    rw (fixed, right) (or_else_right _ ∙ steps_queue road trace said m x)

pub judged_iff : (width : ℕ) (road : Road) (words : List ℕ) → (judged width road words ≡ Accepted) ↔ Keeps width road words
unfolding judged
judged_iff width road words = (to, from)
  where
    trace : Trace
    trace = trace_of width road words

    said : ℕ → ℕ → Option Units
    said = exits_of width road words

    to : judged width road words ≡ Accepted → Keeps width road words
    to e =
        let (a, h) = (or_else_accepts (first_place (suc road.steps) (nodes road) (fixed_at road trace said)) _).0 e in
        let (b, c) = (or_else_accepts (first_place road.steps (nodes road) (step_at road trace said)) (refusal (cost_fault width road words) 0 0)).0 h in
        record {
          moves =
              record {
                fixed = λ k i hk hi. ((fixed_all road trace said).0 a k i hk hi).0;
                steps = λ k i hk hi. (steps_all road trace said road.steps b k i hk hi).0;
              };
          exits =
              record {
                none = λ k i hk hi. ((fixed_all road trace said).0 a k i hk hi).1;
                right = λ k i hk hi. (steps_all road trace said road.steps b k i hk hi).1;
              };
          queues = λ k i hk hi. (steps_all road trace said road.steps b k i hk hi).2;
          costs = (cost_iff width road words).0 ((refusal_accepts (cost_fault width road words) 0 0).0 c);
        }

    from : Keeps width road words → judged width road words ≡ Accepted
    from s =
        judged_queue width road words s.moves s.exits s.costs
        ∙ (first_place_accepts road.steps (nodes road) (λ k i. queue_fault (road.node i).ramp.queue_limit (trace.state (suc k) i).queue)).1
        (λ k i hk hi. (queue_iff (road.node i).ramp.queue_limit (trace.state (suc k) i).queue).1 (s.queues k i hk (omega arith)))
