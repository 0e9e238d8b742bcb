-- The record of a plan is told by nodes 0..N and steps 0..K − 1 of a road alone: roads that agree there have the same.
use Prim.Native.Nat.{ℕ, zero, suc, ◌≤◌}
use mathlib.Core.List.{List, ◌++◌}
use mathlib.Core.Path.{◌≡◌, refl, sym, ap, ◌∙◌}
use native.Mathlib.Omega.{arith}
use Rattle.tables.proofs.Grid.{grid_same}
use Rattle.road.specs.Corridor.{Road, Plan, Flows, nodes}
use Rattle.road.specs.Step.{exit}
use Rattle.road.specs.Run.{no_flow, run, cost}
use Rattle.road.proofs.Rules.{exit_of_none}
use Rattle.road.proofs.Runs.{run_each}
use Rattle.road.proofs.Roads.{SameRoads, with_sizes, with_sizes_lem, roads_run}
use Rattle.lists.specs.Words.{plan_of, node_word, exit_at, trace_word, trace_words, low_high, record_words}
use Rattle.lists.proofs.Words.{record_same}

module _ (road other : Road) (e : SameRoads road other) where
  abbrev like : Road
  like = with_sizes road other

  -- their exits agree: in steps 0..K − 1 by their splits, and in state K nothing leaves
  like_exit : (plan : Plan) (k i : ℕ) → k ≤ road.steps → i ≤ road.links → exit_at road (run like plan) k i ≡ exit_at like (run like plan) k i
  unfolding no_flow
  like_exit plan k i hk hi =
      run_each (λ (x : Flows). exit x.main (road.split k i) ≡ exit x.main (other.split k i)) like plan k i hk
      (exit_of_none 0 (road.split k i) refl ∙ sym (exit_of_none 0 (other.split k i) refl))
      (λ g. ap (exit _) (e.split k i g hi))

  like_record : (width : ℕ) (plan : Plan) → record_words width road (run like plan) ≡ record_words width like (run like plan)
  unfolding record_words trace_words cost node_word
  like_record width plan =
      ap (λ (words : List ℕ). words ++ low_high (cost road (run like plan)))
      (grid_same width (nodes road) (suc road.steps) _ _ (λ k i q hk hi hq. word k i q (like_exit plan k i (omega arith) (omega arith))))
    where
      word : (k i q : ℕ) → exit_at road (run like plan) k i ≡ exit_at like (run like plan) k i → trace_word road (run like plan) k i q ≡ trace_word like (run like plan) k i q
      word k i zero s = refl
      word k i (suc zero) s = refl
      word k i (suc (suc zero)) s = refl
      word k i (suc (suc (suc zero))) s = refl
      word k i (suc (suc (suc (suc q)))) s = s

  pub roads_record : (width : ℕ) (words : List ℕ) → record_words width road (run road (plan_of road words)) ≡ record_words width other (run other (plan_of other words))
  unfolding plan_of
  roads_record width words =
      record_same width road (run road (plan_of road words)) (run like (plan_of road words)) (roads_run road other e (plan_of road words))
      ∙ like_record width (plan_of road words)
      ∙ ap (λ (x : Road). record_words width x (run x (plan_of x words))) (with_sizes_lem road other e)
