-- What a plan within bounds does on the road keeps 7 to 11, and so does what agrees with it at states 0..K and nodes 0..N.
use Prim.Native.Nat.{ℕ, suc, ◌≤◌, ◌<◌}
use mathlib.Core.Path.{◌≡◌, refl, sym, ap, subst, subst₂, ◌∙◌}
use native.Mathlib.Omega.{arith}
use Rattle.road.specs.Corridor.{NodeState, Road, Plan, Flows, Trace}
use Rattle.road.specs.Step.{Junction}
use Rattle.road.specs.Run.{junction, next, plan_flows, state_at, run}
use Rattle.road.specs.Limits.{Limits, Bounds, Bounded}
use Rattle.road.proofs.Runs.{run_flows, run_last, run_jam, junction_limits}
use Rattle.road.proofs.Same.{SameTraces, junction_same, next_same}
use Rattle.road.proofs.Zeros.{run_entry_vehicles, run_entry_main, run_exit_queue, run_exit_ramp}
use Rattle.settings.specs.Share.{Permitted}
use Rattle.settings.proofs.Settings.{reached_permitted}
use Rattle.record_faults.proofs.Records.{Fixed, Stepped}
use Rattle.convert.proofs.Facts.{Moves}

module _ (road : Road) (limits : Limits road) (plan : Plan) where
  pub run_fixed : (k i : ℕ) → k ≤ road.steps → i ≤ road.links → Fixed road k i ((run road plan).state k i) ((run road plan).flows k i)
  unfolding run state_at
  run_fixed k i hk hi =
      record {
        first = λ e. ap (λ (j : ℕ). state_at road plan j i) e;
        last = λ e. ap (λ (j : ℕ). (run road plan).flows j i) e ∙ run_last road plan i;
        entry_vehicles = λ e. ap (λ (j : ℕ). (state_at road plan k j).vehicles) e ∙ run_entry_vehicles road limits plan k;
        entry_main = λ e. ap (λ (j : ℕ). ((run road plan).flows k j).main) e ∙ run_entry_main road limits plan k hk;
        exit_queue = λ e. ap (λ (j : ℕ). (state_at road plan k j).queue) e ∙ run_exit_queue road limits plan k hk;
        exit_ramp = λ e. ap (λ (j : ℕ). ((run road plan).flows k j).ramp) e ∙ run_exit_ramp road limits plan k hk;
      }

  -- the flows that a setting within bounds gives are permitted
  pub run_permitted : (k i : ℕ) → k < road.steps → i ≤ road.links → Bounds road plan k i
      → Permitted (junction road k (state_at road plan k) i) (plan_flows road plan k (state_at road plan k) i)
  unfolding plan_flows junction
  run_permitted k i hk hi b =
      let state : ℕ → NodeState = state_at road plan k in
      reached_permitted (junction road k state i) (junction_limits road limits k i state hk hi (run_jam road limits plan k i (omega arith) hi))
      (plan_flows road plan k state i) (plan.rate k i) (plan.limit k i) b.limit refl

  pub run_moves : Bounded road plan → Moves road (run road plan)
  unfolding run state_at
  run_moves b =
      record {
        fixed = run_fixed;
        steps = λ k i hk hi.
            let state : ℕ → NodeState = state_at road plan k in
            subst (λ (f : ℕ → Flows). Stepped (junction road k state i) (f i) (next road k state f i) (state_at road plan (suc k) i))
            (sym (λ z j. run_flows road plan k j hk z))
            (record { permitted = run_permitted k i hk hi (b k i hk hi); moves = refl });
      }

-- ---- traces that agree

stepped_same : (a b : Junction) (x y : Flows) (m m' s t : NodeState) → a ≡ b → x ≡ y → m ≡ m' → s ≡ t → Stepped a x m s → Stepped b y m' t
stepped_same a b x y m m' s t p q r e h =
    record { permitted = subst₂ (λ (j : Junction) (f : Flows). Permitted j f) p q h.permitted; moves = sym e ∙ h.moves ∙ r }

pub moves_same : (road : Road) (trace other : Trace) → SameTraces road trace other → Moves road trace → Moves road other
moves_same road trace other e h =
    record {
      fixed = λ k i hk hi.
          subst₂ (λ (s : NodeState) (f : Flows). Fixed road k i s f) (e k i hk hi).state (e k i hk hi).flows (h.fixed k i hk hi);
      steps = λ k i hk hi.
          let states : (j : ℕ) → j ≤ road.links → trace.state k j ≡ other.state k j = λ j hj. (e k j (omega arith) hj).state in
          let flows : (j : ℕ) → j ≤ road.links → trace.flows k j ≡ other.flows k j = λ j hj. (e k j (omega arith) hj).flows in
          stepped_same _ _ _ _ _ _ _ _
          (junction_same road k (trace.state k) (other.state k) i states hi)
          (flows i hi)
          (next_same road k (trace.state k) (other.state k) (trace.flows k) (other.flows k) i states flows hi)
          (e (suc k) i hk hi).state
          (h.steps k i hk hi);
    }
