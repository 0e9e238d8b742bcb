-- Demand 2 is proved: the record by how it is laid out, the files by the laws of block files.
use Prim.Native.Nat.{ℕ, ◌-◌, ◌≤◌, ◌<◌}
use mathlib.Core.List.{List}
use mathlib.Core.Path.{◌≡◌, sym, ap, subst, ◌∙◌}
use native.Mathlib.Nat.{le_of_lt}
use native.Mathlib.Omega.{arith}
use Rattle.tables.specs.Grid.{place}
use Rattle.road.specs.Corridor.{Road, Plan, Flows}
use Rattle.road.specs.Step.{exit, through}
use Rattle.road.specs.Run.{no_flow, run}
use Rattle.road.proofs.Rules.{through_exit, exit_of_none}
use Rattle.road.proofs.Runs.{run_flows, run_last}
use Rattle.lists.specs.Words.{road_of, plan_of, Width, exit_at, node_word, record_words}
use Rattle.lists.proofs.Words.{record_length_lem, record_at, record_read, record_cost}
use Rattle.simulate.specs.Simulate.{simulated}
use Rattle.block.specs.declared.Kind.{Kind}
use Rattle.block.proofs.Chosen.{chosen_written_then_read, chosen_read_then_written, chosen_change_seen, other_kind_seen, kind_kept}
use Rattle.demands.specs.Demand2.{exit_word, main_flow, SimulatedRecord, BlockFiles, Demand2}

-- the fifth word of a node in the record of kind 7
pub exit_at_lem : (road : Road) (plan : Plan) (width : ℕ) → width ≡ 5 → (k i : ℕ) → k ≤ road.steps → i ≤ road.links
    → exit_word road (record_words width road (run road plan)) k i ≡ exit_at road (run road plan) k i
unfolding node_word
exit_at_lem road plan width e k i hk hi =
    subst (λ (w : ℕ). exit_word road (record_words w road (run road plan)) k i ≡ exit_at road (run road plan) k i) (sym e) (record_at 5 road (run road plan) k i 4 hk hi (omega arith))

exit_of : (road : Road) (plan : Plan) (width : ℕ) → width ≡ 5 → (k i : ℕ) → k < road.steps → i ≤ road.links
    → exit_word road (record_words width road (run road plan)) k i ≡ exit (main_flow road plan k i) (road.split k i)
exit_of road plan width e k i hk hi =
    exit_at_lem road plan width e k i (le_of_lt hk) hi ∙ ap (λ (x : Flows). exit x.main (road.split k i)) (run_flows road plan k i hk)

pub rest_of : (flow split : ℕ) → split ≤ 65536 → exit flow split ≡ flow - through flow split
rest_of flow split h = omega (arith, through_exit flow split h)

simulated_is : (width : ℕ) → Width width → (corridor demands words : List ℕ) → SimulatedRecord width corridor demands words (road_of corridor demands) (plan_of (road_of corridor demands) words)
unfolding simulated run no_flow
simulated_is width wide corridor demands words =
    let road = road_of corridor demands in
    let plan = plan_of (road_of corridor demands) words in
    let read = record_read width road (run road plan) wide in
    record {
      length_of_record = record_length_lem width road (run road plan);
      states = λ k i hk hi. (read k i hk hi).state;
      flows = λ k i hk hi. (read k i (le_of_lt hk) hi).flows ∙ run_flows road plan k i hk;
      last_flows = λ i hi. (read road.steps i (omega arith) hi).flows ∙ run_last road plan i;
      exits = exit_of road plan width;
      exits_are_the_rest = λ e k i hk hi b. exit_of road plan width e k i hk hi ∙ rest_of _ (road.split k i) b;
      last_exits = λ e i hi.
          exit_at_lem road plan width e road.steps i (omega arith) hi ∙ exit_of_none _ (road.split road.steps i) (ap (λ (x : Flows). x.main) (run_last road plan i));
      cost_low = (record_cost width road (run road plan)).low;
      cost_high = (record_cost width road (run road plan)).high;
    }

files_are : (place : Kind) (n k : ℕ) → BlockFiles place n k
files_are place n k =
    record {
      words_come_back = λ words file lent right accepted fits. chosen_written_then_read place n k words file lent right accepted fits;
      bytes_come_back = λ file words lent right accepted fits. chosen_read_then_written place n k file words lent right accepted fits;
      a_change_is_seen = λ file other lent t i right changed few one accepted within same.
          (chosen_change_seen place n k file other lent t i right changed few one accepted within same).0;
      another_kind_is_seen = λ file other lent accepted differs. (other_kind_seen place n k file other lent accepted differs).0;
      only_word_0_chooses = kind_kept place;
    }

pub demand2 : Demand2
demand2 = record { simulated_record = simulated_is; block_files = files_are }
