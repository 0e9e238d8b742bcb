-- Checker, converter and normal form: their answers, and the plan that they write.
use Rattle.std.specs.Prelude.{ℕ, Bool, ◌&&◌, List, length, eqb}
use Rattle.tables.specs.Answer.{Answer}
use Rattle.tables.specs.Answer.{or_else, sized, left}
use Rattle.road.specs.Corridor.{Road, Plan, Trace}
use Rattle.road.specs.Run.{junction}
use Rattle.settings.specs.declared.Setting.{Setting}
use Rattle.settings.specs.Setting.{setting_for, rate_in, limit_in}
use Rattle.lists.specs.Words.{links_of, steps_of, road_of, plan_words, trace_of, plan_length, width_of}
use Rattle.lengths.specs.Lengths.{record_sized, sizes}
use Rattle.list_scans.specs.Refusals.{ranges, plan_bounds}
use Rattle.simulate.specs.Simulate.{simulated}
use Rattle.convert.specs.Refusals.{judged}

-- the setting of node i at step k that gives the record's flows from the record's state
unfoldable pub setting_at : Road → Trace → ℕ → ℕ → Setting
setting_at road trace k i = setting_for (junction road k (trace.state k) i) (trace.flows k i)

-- the plan that sets every node at every step so
unfoldable pub plan_for : Road → Trace → Plan
plan_for road trace =
    record {
      rate = λ k i. rate_in (setting_at road trace k i);
      limit = λ k i. limit_in (road.node i).link.full_speed (setting_at road trace k i);
    }

-- the converter's plan for a record with `width` words for each node
unfoldable pub converted_by : ℕ → List ℕ → List ℕ → List ℕ → List ℕ
converted_by width corridor demands words = plan_words (road_of corridor demands) (plan_for (road_of corridor demands) (trace_of width (road_of corridor demands) words))

-- the record's length tells how many these are
abbrev pub converted : List ℕ → List ℕ → List ℕ → List ℕ
converted corridor demands words = converted_by (width_of corridor demands (length words)) corridor demands words

-- "Normal form: simulate into the caller's work record, then convert.": `width` is that of the work record
unfoldable pub normal_form : ℕ → List ℕ → List ℕ → List ℕ → List ℕ
normal_form width corridor demands plan = converted corridor demands (simulated width corridor demands plan)

-- ---- answers: 1, then 2 to 5, then 6 of a plan, then 7 to 13 of a record, of the kind that its length tells

-- 2 to 5, then 7 to 13
abbrev pub record_refusal : List ℕ → List ℕ → List ℕ → Answer
record_refusal corridor demands words =
    or_else (ranges (road_of corridor demands)) (judged (width_of corridor demands (length words)) (road_of corridor demands) words)

unfoldable pub check_answer : List ℕ → List ℕ → List ℕ → Answer
check_answer corridor demands words =
    or_else (sized (sizes corridor demands && record_sized (links_of corridor) (steps_of demands) (length words))) (record_refusal corridor demands words)

-- the same with one more test among those of 1
abbrev pub record_answer : Bool → List ℕ → List ℕ → List ℕ → Answer
record_answer also corridor demands words =
    or_else (sized (sizes corridor demands && (record_sized (links_of corridor) (steps_of demands) (length words) && also))) (record_refusal corridor demands words)

-- `room` is the length of the lent plan
unfoldable pub convert_answer : List ℕ → List ℕ → List ℕ → ℕ → Answer
convert_answer corridor demands words room = record_answer (eqb room (plan_length (links_of corridor) (steps_of demands))) corridor demands words

-- 1 to 6: what refuses a normal form before anything is written; `work` and `room` are the lengths of the lent work record and of the lent plan
unfoldable pub normal_refusal : List ℕ → List ℕ → List ℕ → ℕ → ℕ → Answer
normal_refusal corridor demands plan work room =
    or_else
    (sized
    (sizes corridor demands
    && (eqb (length plan) (plan_length (links_of corridor) (steps_of demands))
    && (record_sized (links_of corridor) (steps_of demands) work && eqb room (plan_length (links_of corridor) (steps_of demands))))))
    (or_else (ranges (road_of corridor demands)) (plan_bounds corridor demands plan))

unfoldable pub normal_answer : List ℕ → List ℕ → List ℕ → ℕ → ℕ → Answer
normal_answer corridor demands plan work room =
    or_else (normal_refusal corridor demands plan work room)
    (judged (width_of corridor demands work) (road_of corridor demands) (simulated (width_of corridor demands work) corridor demands plan))

-- ---- the lent lists at exit

-- the converter's plan
unfoldable pub plan_left : List ℕ → List ℕ → List ℕ → List ℕ → List ℕ
plan_left corridor demands words lent = left (convert_answer corridor demands words (length lent)) (converted corridor demands words) lent

-- a normal form's work record, filled unless 1 to 6 refuse, and its plan; `room` and `work` are the lengths of the other list
unfoldable pub work_left : List ℕ → List ℕ → List ℕ → List ℕ → ℕ → List ℕ
work_left corridor demands plan lent room =
    left (normal_refusal corridor demands plan (length lent) room) (simulated (width_of corridor demands (length lent)) corridor demands plan) lent

unfoldable pub normal_left : List ℕ → List ℕ → List ℕ → ℕ → List ℕ → List ℕ
normal_left corridor demands plan work lent =
    left (normal_answer corridor demands plan work (length lent)) (normal_form (width_of corridor demands work) corridor demands plan) lent
