-- Refusals 7 to 13 of document 01, with the exits of request 04: what a proposed record keeps.
use Rattle.std.specs.Prelude.{ℕ, suc, ◌+◌, List, Option, get_or}
use Rattle.tables.specs.Answer.{Answer}
use Rattle.tables.specs.Answer.{or_else, refusal}
use Rattle.tables.specs.First.{first_place}
use Rattle.road.specs.declared.Units.{Units}
use Rattle.road.specs.Corridor.{Road, Trace, nodes}
use Rattle.road.specs.Run.{junction, next, cost}
use Rattle.record_faults.specs.Records.{fixed_fault, step_fault, total_fault}
use Rattle.lists.specs.Words.{trace_of, exits_of, trace_length}

-- ---- 13: the record's two last words against the cost as low and high 32 bits

unfoldable pub cost_fault : ℕ → Road → List ℕ → ℕ
cost_fault width road words =
    total_fault (cost road (trace_of width road words))
    (get_or words (trace_length width road.links road.steps) 0)
    (get_or words (trace_length width road.links road.steps + 1) 0)

-- ---- 7 over the whole record, then 8 to 12 by step, node and number, 13 last

-- `said` is what the record says of the exits
abbrev pub fixed_at : Road → Trace → (ℕ → ℕ → Option Units) → ℕ → ℕ → ℕ
fixed_at road trace said k i = fixed_fault road k i (trace.state k i) (trace.flows k i) (said k i)

abbrev pub step_at : Road → Trace → (ℕ → ℕ → Option Units) → ℕ → ℕ → ℕ
step_at road trace said k i =
    step_fault (junction road k (trace.state k) i) (trace.flows k i) (said k i) (next road k (trace.state k) (trace.flows k) i) (trace.state (suc k) i)

unfoldable pub judged : ℕ → Road → List ℕ → Answer
judged width road words =
    or_else (first_place (suc road.steps) (nodes road) (fixed_at road (trace_of width road words) (exits_of width road words)))
    (or_else (first_place road.steps (nodes road) (step_at road (trace_of width road words) (exits_of width road words)))
    (refusal (cost_fault width road words) 0 0))
