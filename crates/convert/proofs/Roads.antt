-- What refusals 7 to 13 and the converter's plan say of a road is told by nodes 0..N and steps 0..K − 1 alone: roads that agree there have
-- the same.
use Prim.Native.Nat.{ℕ, suc, ◌≤◌, ◌<◌}
use mathlib.Core.List.{List}
use mathlib.Core.Path.{◌≡◌, ap, ap₂, ◌∙◌}
use native.Mathlib.Omega.{arith}
use Rattle.std.specs.Prelude.{Option}
use Rattle.tables.specs.Answer.{Answer}
use Rattle.tables.specs.Answer.{or_else, refusal}
use Rattle.tables.specs.First.{first_place}
use Rattle.tables.proofs.First.{first_place_same}
use Rattle.road.specs.declared.Units.{Units}
use Rattle.road.specs.Corridor.{Node, NodeState, Road, Trace, nodes}
use Rattle.road.specs.Step.{Junction}
use Rattle.road.specs.Run.{cost}
use Rattle.road.proofs.Roads.{SameRoads, with_sizes, with_sizes_lem, roads_junction, roads_next}
use Rattle.road.proofs.Same.{SameSetting}
use Rattle.settings.specs.declared.Setting.{Setting}
use Rattle.settings.specs.Setting.{setting_for, rate_in, limit_in}
use Rattle.record_faults.specs.Records.{fixed_fault, step_fault}
use Rattle.lists.specs.Words.{plan_words, trace_of, exits_of}
use Rattle.lists.proofs.Words.{plan_same}
use Rattle.convert.specs.Refusals.{cost_fault, fixed_at, step_at, judged}
use Rattle.convert.specs.Convert.{setting_at, plan_for}

module _ (road other : Road) (e : SameRoads road other) (width : ℕ) (words : List ℕ) where
  abbrev like : Road
  like = with_sizes road other

  abbrev trace : Trace
  trace = trace_of width road words

  abbrev said : ℕ → ℕ → Option Units
  said = exits_of width road words

  like_fixed : first_place (suc road.steps) (nodes road) (fixed_at road trace said) ≡ first_place (suc road.steps) (nodes road) (fixed_at like trace said)
  unfolding fixed_fault
  like_fixed = first_place_same (suc road.steps) (nodes road) _ _
      (λ k i hk hi. ap (λ (n : Node). fixed_fault (record { links = road.links; steps = road.steps; node = λ j. n; arrivals = other.arrivals; split = other.split; downstream = other.downstream }) k i (trace.state k i) (trace.flows k i) (said k i)) (e.node i (omega arith)))

  like_steps : first_place road.steps (nodes road) (step_at road trace said) ≡ first_place road.steps (nodes road) (step_at like trace said)
  like_steps =
      first_place_same road.steps (nodes road) _ _
      (λ k i hk hi.
      ap₂ (λ (j : Junction) (s : NodeState). step_fault j (trace.flows k i) (said k i) s (trace.state (suc k) i))
      (roads_junction road other e k (trace.state k) i hk (omega arith))
      (roads_next road other e k (trace.state k) (trace.flows k) i hk (omega arith)))

  pub roads_judged : judged width road words ≡ judged width other words
  unfolding judged cost_fault cost trace_of
  roads_judged =
      ap₂ (λ (a b : Answer). or_else a (or_else b (refusal (cost_fault width road words) 0 0))) like_fixed like_steps
      ∙ ap (λ (x : Road). judged width x words) (with_sizes_lem road other e)

  like_setting : (k i : ℕ) → k < road.steps → i ≤ road.links → setting_at road trace k i ≡ setting_at like trace k i
  unfolding setting_at
  like_setting k i hk hi = ap (λ (j : Junction). setting_for j (trace.flows k i)) (roads_junction road other e k (trace.state k) i hk hi)

  like_plan : (k i : ℕ) → k < road.steps → i ≤ road.links → SameSetting (plan_for road trace) (plan_for like trace) k i
  unfolding plan_for
  like_plan k i hk hi =
      record {
        rate = ap rate_in (like_setting k i hk hi);
        limit = ap₂ (λ (n : Node) (s : Setting). limit_in n.link.full_speed s) (e.node i hi) (like_setting k i hk hi);
      }

  pub roads_plan : plan_words road (plan_for road (trace_of width road words)) ≡ plan_words other (plan_for other (trace_of width other words))
  unfolding plan_words trace_of
  roads_plan =
      plan_same road (plan_for road trace) (plan_for like trace) like_plan
      ∙ ap (λ (x : Road). plan_words x (plan_for x (trace_of width x words))) (with_sizes_lem road other e)
