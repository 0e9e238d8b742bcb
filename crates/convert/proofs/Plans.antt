-- A trace that keeps 7 to 11 is what the settings that document 01 names for it do on the road, and these are the converter's.
use Prim.Native.Nat.{ℕ, zero, suc, ◌≤◌, ◌<◌}
use mathlib.Core.Path.{◌≡◌, refl, sym, ap, ◌∙◌}
use mathlib.Core.Logic.{⊎_elim}
use native.Mathlib.Omega.{arith}
use Rattle.tables.proofs.Numbers.{le_or_lt}
use Rattle.road.specs.Corridor.{Road, Plan, Trace}
use Rattle.road.specs.Step.{Junction, flows_with}
use Rattle.road.specs.Run.{junction, plan_flows, state_at, run}
use Rattle.road.specs.Limits.{Limits, JunctionLimits, Bounded}
use Rattle.road.proofs.Runs.{run_flows, run_last, junction_limits}
use Rattle.road.proofs.Same.{Same, SameTraces, junction_same, next_same}
use Rattle.settings.specs.Share.{IsSetting}
use Rattle.settings.proofs.Settings.{setting_named, named_gives, named_rate, named_limit}
use Rattle.convert.specs.Convert.{setting_at, plan_for}
use Rattle.convert.proofs.Facts.{Moves}
use Rattle.convert.proofs.Kept.{jam_kept}

module _ (road : Road) (limits : Limits road) (trace : Trace) (moves : Moves road trace) where
  -- n ≤ J in every state
  pub trace_jam : (k i : ℕ) → k ≤ road.steps → i ≤ road.links → (trace.state k i).vehicles ≤ (road.node i).link.jam
  trace_jam k i hk hi = jam_kept road limits trace (λ j hj. (moves.fixed zero j (omega arith) hj).first refl) k hk (λ h j a b. moves.steps h j (omega arith) b) i hi

  pub trace_limits : (k i : ℕ) → k < road.steps → i ≤ road.links → JunctionLimits (junction road k (trace.state k) i)
  trace_limits k i hk hi = junction_limits road limits k i (trace.state k) hk hi (trace_jam k i (omega arith) hi)

  -- ---- the converter's plan

  pub plan_named : (k i : ℕ) → k < road.steps → i ≤ road.links
      → IsSetting (junction road k (trace.state k) i) (trace.flows k i) ((plan_for road trace).rate k i) ((plan_for road trace).limit k i)
  unfolding plan_for setting_at junction
  plan_named k i hk hi =
      setting_named (junction road k (trace.state k) i) (trace_limits k i hk hi) (trace.flows k i) (moves.steps k i hk hi).permitted

  -- ---- any plan that sets every node at every step as document 01 says

  module _ (plan : Plan) (named : (k i : ℕ) → k < road.steps → i ≤ road.links
      → IsSetting (junction road k (trace.state k) i) (trace.flows k i) (plan.rate k i) (plan.limit k i)) where
    pub named_bounded : Bounded road plan
    unfolding junction
    named_bounded k i hk hi =
        let at : Junction = junction road k (trace.state k) i in
        let permitted = (moves.steps k i hk hi).permitted in
        record {
          rate = named_rate at (trace_limits k i hk hi) (trace.flows k i) permitted (plan.rate k i) (plan.limit k i) (named k i hk hi);
          limit = named_limit at (trace_limits k i hk hi) (trace.flows k i) permitted (plan.rate k i) (plan.limit k i) (named k i hk hi);
        }

    named_flows : (k : ℕ) → k < road.steps → Same road (state_at road plan k) (trace.state k)
        → Same road (plan_flows road plan k (state_at road plan k)) (trace.flows k)
    unfolding plan_flows
    named_flows k hk e i hi =
        ap (λ (j : Junction). flows_with j (plan.rate k i) (plan.limit k i)) (junction_same road k (state_at road plan k) (trace.state k) i e hi)
        ∙ named_gives (junction road k (trace.state k) i) (trace_limits k i hk hi) (trace.flows k i) (moves.steps k i hk hi).permitted
        (plan.rate k i) (plan.limit k i) (named k i hk hi)

    named_state : (k : ℕ) → k ≤ road.steps → Same road (state_at road plan k) (trace.state k)
    unfolding state_at
    named_state zero hk i hi = sym ((moves.fixed zero i hk hi).first refl)
    named_state (suc k) hk i hi =
        let e : Same road (state_at road plan k) (trace.state k) = named_state k (omega arith) in
        next_same road k (state_at road plan k) (trace.state k) (plan_flows road plan k (state_at road plan k)) (trace.flows k) i e (named_flows k hk e) hi
        ∙ sym (moves.steps k i hk hi).moves

    -- its run is the trace
    pub named_run : SameTraces road (run road plan) trace
    unfolding run
    named_run k i hk hi =
        record {
          state = named_state k hk i hi;
          flows = ⊎_elim
              (λ (g : road.steps ≤ k).
              let e : k ≡ road.steps = omega arith in
              ap (λ (j : ℕ). (run road plan).flows j i) e ∙ run_last road plan i ∙ sym ((moves.fixed k i hk hi).last e))
              (λ (g : k < road.steps). run_flows road plan k i g ∙ named_flows k g (named_state k hk) i hi)
              (le_or_lt road.steps k);
        }
