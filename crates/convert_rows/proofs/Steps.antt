-- Laws of a step's check on its rows, in the shape of what the code asks and returns.
use Prim.Native.Nat.{ℕ, suc, ◌+◌, ◌*◌, ◌≤◌, ◌<◌}
use mathlib.Core.List.{List}
use mathlib.Core.Path.{◌≡◌, refl, sym, ap, ap₂, ◌∙◌}
use native.Mathlib.Numerals.{add-one}
use native.Mathlib.Omega.{arith}
use lib.ListN.{get_or}
use Rattle.std.specs.Prelude.{Option}
use Rattle.tables.specs.Answer.{Answer}
use Rattle.tables.specs.Answer.{Accepted, refusal}
use Rattle.tables.specs.First.{first_node}
use Rattle.tables.proofs.Answers.{Refuses, refusal_accepts}
use Rattle.tables.proofs.First.{Passed, passed_begun, passed_told, nodes_stop}
use Rattle.road.specs.declared.Units.{Units}
use Rattle.road.specs.declared.Junction as junctions
use Rattle.road.specs.declared.NodeState as states
use Rattle.road.specs.declared.Flows as flows
use Rattle.road.specs.Corridor.{Road, Flows}
use Rattle.road.specs.Step.{Junction, outflow, moved}
use Rattle.road.specs.Run.{junction, inflow, next}
use Rattle.road.specs.Values.{state_of, junction_of, flows_of}
use Rattle.road.proofs.Rules.{sending_le, through_le}
use Rattle.lists.specs.Words.{node_at}
use Rattle.lists.specs.Rows.{state_in, flows_in, exit_in, step_road}
use Rattle.lists.specs.Fits.{JamKept}
use Rattle.settings.specs.Share.{Permitted}
use Rattle.record_faults.specs.Records.{fixed_fault, step_fault}
use Rattle.convert_rows.specs.Rows.{bare_road, fixed_fault_in, step_fault_in, NodeKept, RowsKept}
use Rattle.record_faults.proofs.Records.{step_iff}

module _ (width : ℕ) (corridor demand row : List ℕ) (links : ℕ) (rows : RowsKept width corridor demand row links) where
  pub jam_of : JamKept width corridor row links
  jam_of i h = (rows.kept i h).jam

  -- the junction as the code has it keeps what a fault, and what a setting, asks
  module _ (downstream i : ℕ) (h : i ≤ links) (a : junctions.Junction) (e : junction_of a ≡ junction (step_road corridor demand downstream) 0 (state_in width row) i) where
    pub split_kept : a.split.0 ≤ 65536
    unfolding junction step_road
    split_kept = omega (arith, (rows.kept i h).split, ap (λ (x : Junction). x.split) e)

    pub speed_kept : a.link.full_speed.0 ≤ 65536
    unfolding junction step_road
    speed_kept = omega (arith, (rows.kept i h).full_speed, ap (λ (x : Junction). x.link.full_speed) e)

    pub room_kept : (gained arrivals : ℕ) → gained ≤ 134283264 → arrivals ≡ get_or demand (i * 2 + 0) 0
        → (a.state.vehicles.0 + gained ≤ 4294967295) × (a.state.queue.0 + arrivals ≤ 4294967295)
    unfolding junction
    room_kept gained arrivals g q =
        let k = rows.kept i h in
        let n : a.state.vehicles.0 ≡ (state_in width row i).vehicles = ap (λ (x : Junction). x.state.vehicles) e in
        let l : a.state.queue.0 ≡ (state_in width row i).queue = ap (λ (x : Junction). x.state.queue) e in
        (omega arith, omega arith)

    pub sent_kept : (f : flows.Flows) → flows_of f ≡ flows_in width row i → (flows_in width row i).main ≤ (state_in width row i).vehicles
        → (a.state.vehicles.0 ≤ 65536) × (f.main.0 ≤ a.state.vehicles.0)
    unfolding junction
    sent_kept f q b =
        let k = rows.kept i h in
        let n : a.state.vehicles.0 ≡ (state_in width row i).vehicles = ap (λ (x : Junction). x.state.vehicles) e in
        let m : f.main.0 ≡ (flows_in width row i).main = ap (λ (x : Flows). x.main) q in
        (omega arith, omega arith)

-- v is the number as the code has it, g what the link gains, x the arrivals, x' what is said of the exit, s the state after the step
pub step_number_is : (width : ℕ) (corridor demand row after : List ℕ) (downstream i v g x : ℕ) (a : junctions.Junction) (f : flows.Flows)
    (x' : Option Units) (s : states.NodeState)
    → v ≡ step_fault (junction_of a) (flows_of f) x' (moved (state_of a.state) g x (flows_of f)) (state_of s)
    → junction_of a ≡ junction (step_road corridor demand downstream) 0 (state_in width row) i → flows_of f ≡ flows_in width row i → x' ≡ exit_in width row i
    → g ≡ inflow (step_road corridor demand downstream) 0 (flows_in width row) i → x ≡ get_or demand (i * 2 + 0) 0 → state_of s ≡ state_in width after i
    → v ≡ step_fault_in width corridor demand downstream row after i
unfolding step_fault_in junction next step_road
step_number_is width corridor demand row after downstream i v g x a f x' s e j q p n b t =
    e ∙ (λ z. step_fault (j z) (q z) (p z) (moved (j z).state (n z) (b z) (q z)) (t z))

-- ---- of a loop over the nodes: g is what link i gains

pub record Gaining (road : Road) (flows : ℕ → Flows) (i g : ℕ) : Type 0 where
  pub small : g ≤ 134283264
  pub is : g ≡ inflow road 0 flows i

pub gaining_begun : (road : Road) (flows : ℕ → Flows) → Gaining road flows 0 0
unfolding inflow
gaining_begun road flows = record { small = omega arith; is = refl }

-- x is what node i passes on
pub gaining_more : (road : Road) (flows : ℕ → Flows) (i x : ℕ) → x ≡ outflow (flows i) (road.split 0 i) → x ≤ 134283264 → Gaining road flows (i + 1) x
unfolding inflow
gaining_more road flows i x e b = record { small = b; is = e ∙ sym (ap (λ (m : ℕ). inflow road 0 flows m) (add-one i)) }

-- ---- as a loop's invariant: no node before i has a fault

pub record Stepping (width i links k : ℕ) (corridor demand : List ℕ) (downstream : ℕ) (row after : List ℕ) (g : ℕ) : Type 0 where
  pub passed : Passed i (links + 1) (λ j. refusal (step_fault_in width corridor demand downstream row after j) k j)
  pub gaining : Gaining (step_road corridor demand downstream) (flows_in width row) i g

pub stepping_begun : (width links k : ℕ) (corridor demand : List ℕ) (downstream : ℕ) (row after : List ℕ) → Stepping width 0 links k corridor demand downstream row after 0
stepping_begun width links k corridor demand downstream row after = record { passed = passed_begun _ _; gaining = gaining_begun _ _ }

-- a is the answer of node i, and x what it passes on
pub stepping_more : (width i links k : ℕ) (corridor demand : List ℕ) (downstream : ℕ) (row after : List ℕ) (g x : ℕ) (a : Answer)
    → Stepping width i links k corridor demand downstream row after g → i < links + 1
    → a ≡ refusal (step_fault_in width corridor demand downstream row after i) k i → a ≡ Accepted
    → x ≡ outflow (flows_in width row i) (get_or demand (i * 2 + 1) 0) → x ≤ 134283264
    → Stepping width (i + 1) links k corridor demand downstream row after x
unfolding step_road
stepping_more width i links k corridor demand downstream row after g x a s h e f p b =
    record {
      passed = passed_told _ _ _ a s.passed h e f;
      gaining = gaining_more (step_road corridor demand downstream) (flows_in width row) i x p b;
    }

pub stepping_stop : (width i links k : ℕ) (corridor demand : List ℕ) (downstream : ℕ) (row after : List ℕ) (g : ℕ) (a : Answer)
    → Stepping width i links k corridor demand downstream row after g → i < links + 1
    → a ≡ refusal (step_fault_in width corridor demand downstream row after i) k i → Refuses a
    → a ≡ first_node (suc links) k (step_fault_in width corridor demand downstream row after)
stepping_stop width i links k corridor demand downstream row after g a s h e r = nodes_stop _ _ _ a s.passed h e r

-- where the flows are permitted no more leaves a link and a ramp than is there
pub permitted_held : (a : Junction) (f : Flows) → Permitted a f → a.link.full_speed ≤ 65536 → (f.main ≤ a.state.vehicles) × (f.ramp ≤ a.state.queue)
permitted_held a f p h =
    let sent = p.sent in
    let offered = p.offered in
    (omega (arith, sending_le a.link a.state.vehicles a.link.full_speed h), omega arith)

-- what `outflow_at` asks of a node of which this is known
pub held_passes : (width : ℕ) (corridor demand row : List ℕ) (i : ℕ) → NodeKept width corridor demand row i
    → ((flows_in width row i).main ≤ (state_in width row i).vehicles) × ((flows_in width row i).ramp ≤ (state_in width row i).queue)
    → (get_or demand (i * 2 + 1) 0 ≤ 65536) × ((flows_in width row i).main + (flows_in width row i).ramp ≤ 134283264)
held_passes width corridor demand row i kept held = (kept.split, omega (arith, held.0, held.1, kept.vehicles, kept.queue))

-- and so of a node with no fault
pub passes_on : (width : ℕ) (corridor demand : List ℕ) (downstream : ℕ) (row after : List ℕ) (links i k : ℕ) (a : Answer)
    → RowsKept width corridor demand row links → i < links + 1
    → a ≡ refusal (step_fault_in width corridor demand downstream row after i) k i → a ≡ Accepted
    → (get_or demand (i * 2 + 1) 0 ≤ 65536) × ((flows_in width row i).main + (flows_in width row i).ramp ≤ 134283264)
unfolding step_fault_in junction step_road
passes_on width corridor demand downstream row after links i k a rows h e f =
    let kept : NodeKept width corridor demand row i = rows.kept i (omega arith) in
    let none = (refusal_accepts (step_fault_in width corridor demand downstream row after i) k i).0 (sym e ∙ f) in
    let permitted = ((step_iff (junction (step_road corridor demand downstream) 0 (state_in width row) i) (flows_in width row i) (exit_in width row i) _ (state_in width after i)).0 none).0.permitted in
    held_passes width corridor demand row i kept (permitted_held _ _ permitted kept.full_speed)

-- f and b are a node's flows and split as the code has them
module _ (width : ℕ) (demand row : List ℕ) (i b : ℕ) (f : flows.Flows) (q : flows_of f ≡ flows_in width row i) (e : b ≡ get_or demand (i * 2 + 1) 0) where
  pub outflow_is : (r : ℕ) → (flows_in width row i).main + (flows_in width row i).ramp ≤ 134283264 → r ≡ outflow (flows_of f) b
      → (r ≡ outflow (flows_in width row i) (get_or demand (i * 2 + 1) 0)) × (r ≤ 134283264)
  unfolding outflow
  outflow_is r t p =
      let is : r ≡ outflow (flows_in width row i) (get_or demand (i * 2 + 1) 0) = p ∙ ap₂ outflow q e in
      (is, omega (arith, through_le (flows_in width row i).main (get_or demand (i * 2 + 1) 0)))

-- ---- one node, by value

-- v is the number of refusal 7 as the code has it
pub fixed_number_is : (width : ℕ) (corridor row : List ℕ) (links steps k i v : ℕ) (t s : states.NodeState) (f : flows.Flows) (x : Option Units)
    → ((road : Road) → links ≡ road.links → steps ≡ road.steps → state_of t ≡ (road.node i).start → v ≡ fixed_fault road k i (state_of s) (flows_of f) x)
    → state_of t ≡ (node_at corridor i).start → state_of s ≡ state_in width row i → flows_of f ≡ flows_in width row i → x ≡ exit_in width row i → v ≡ fixed_fault_in width corridor links steps k row i
unfolding bare_road
fixed_number_is width corridor row links steps k i v t s f x e p q r y =
    e (bare_road corridor links steps) refl refl p ∙ (λ z. fixed_fault (bare_road corridor links steps) k i (q z) (r z) (y z))
