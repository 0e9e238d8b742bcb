-- Refusals 7 to 12 of one node as facts: each is due exactly where its facts fail; and laws in the shape of what the code asks and returns.
use Prim.Native.Nat.{ℕ, ◌+◌, ◌≤◌, min}
use mathlib.Core.Bool.{Bool, true, false, ◌&&◌, true≢false}
use mathlib.Core.Path.{◌≡◌, refl, sym, ap, ◌∙◌}
use mathlib.Core.Logic.{◌↔◌, ◌≢◌}
use native.Mathlib.Omega.{arith}
use lib.Dec.{leb, eqb}
use Rattle.std.specs.Prelude.{Option, None}
use Rattle.tables.specs.Answer.{unless}
use Rattle.road.specs.declared.Units.{Units}
use Rattle.road.specs.declared.Junction as junctions
use Rattle.road.specs.declared.Flows as flows
use Rattle.road.specs.Corridor.{NodeState, Road, Flows}
use Rattle.road.specs.Step.{Junction, sending, exit, through, outflow}
use Rattle.road.specs.Run.{no_flow}
use Rattle.road.specs.Values.{link_of, junction_of, flows_of}
use Rattle.road.proofs.Rules.{flows_eq, state_eq}
use Rattle.settings.specs.Share.{Permitted}
use Rattle.faults.specs.Lists.{implies}
use Rattle.record_faults.specs.Records.{same_state, exit_kept, unless_then, fixed_fault, next_fault, step_fault, first_fault}
use Rattle.faults.proofs.Tests.{le_holds, eq_holds, both_hold, implies_holds, no_fault}

same_state_holds : (x y : NodeState) → (same_state x y ≡ true) ↔ (x ≡ y)
same_state_holds x y =
    let r = both_hold _ _ (eq_holds x.vehicles y.vehicles) (eq_holds x.queue y.queue) in (
      λ e. state_eq x y (r.0 e).0 (r.0 e).1,
      λ e. r.1 (ap (λ (s : NodeState). s.vehicles) e, ap (λ (s : NodeState). s.queue) e),
    )

-- a fault before others: the test says A, and the rest B
then_no_fault : {A B : Type 0} (t : Bool) (x rest : ℕ) → x ≢ 0 → (t ≡ true) ↔ A → (rest ≡ 0) ↔ B → (unless_then t x rest ≡ 0) ↔ (A × B)
then_no_fault true x rest h p q = (λ e. (p.0 refl, q.0 e), λ f. q.1 f.1)
then_no_fault false x rest h p q = (λ e. absurd (h e), λ f. absurd (true≢false (sym (p.1 f.0))))

then_passes : (t : Bool) (x rest : ℕ) → t ≡ true → unless_then t x rest ≡ rest
then_passes t x rest e = simp e

-- ---- 7. state 0 and the fixed zeros

pub record Fixed (road : Road) (k i : ℕ) (state : NodeState) (flows : Flows) : Type 0 where
  pub first : k ≡ 0 → state ≡ (road.node i).start
  pub last : k ≡ road.steps → flows ≡ no_flow
  pub entry_vehicles : i ≡ 0 → state.vehicles ≡ 0
  pub entry_main : i ≡ 0 → flows.main ≡ 0
  pub exit_queue : i ≡ road.links → state.queue ≡ 0
  pub exit_ramp : i ≡ road.links → flows.ramp ≡ 0

-- of what a record says of an exit: zero in state K, of node 0 and of node N
pub record NoExit (road : Road) (k i : ℕ) (said : Option Units) : Type 0 where
  pub last : k ≡ road.steps → exit_kept said 0 ≡ true
  pub entry : i ≡ 0 → exit_kept said 0 ≡ true
  pub end : i ≡ road.links → exit_kept said 0 ≡ true

-- two counts and an exit
zeros_hold : (x y : ℕ) (said : Option Units) → ((eqb x 0 && (eqb y 0 && exit_kept said 0)) ≡ true) ↔ ((x ≡ 0) × ((y ≡ 0) × (exit_kept said 0 ≡ true)))
zeros_hold x y said = both_hold _ _ (eq_holds x 0) (both_hold _ _ (eq_holds y 0) (λ e. e, λ e. e))

pub fixed_iff : (road : Road) (k i : ℕ) (state : NodeState) (flows : Flows) (said : Option Units)
    → (fixed_fault road k i state flows said ≡ 0) ↔ (Fixed road k i state flows × NoExit road k i said)
unfolding fixed_fault no_flow
fixed_iff road k i state flows said =
    let r = no_fault _ 7 (λ e. omega arith)
    (both_hold _ _ (implies_holds _ _ (eq_holds k 0) (same_state_holds state (road.node i).start))
    (both_hold _ _ (implies_holds _ _ (eq_holds k road.steps) (zeros_hold flows.main flows.ramp said))
    (both_hold _ _ (implies_holds _ _ (eq_holds i 0) (zeros_hold state.vehicles flows.main said))
    (implies_holds _ _ (eq_holds i road.links) (zeros_hold state.queue flows.ramp said))))) in (
      λ e.
          let h = r.0 e in (
            record {
              first = h.0;
              last = λ q. flows_eq flows no_flow (h.1.0 q).0 (h.1.0 q).1.0;
              entry_vehicles = λ q. (h.1.1.0 q).0;
              entry_main = λ q. (h.1.1.0 q).1.0;
              exit_queue = λ q. (h.1.1.1 q).0;
              exit_ramp = λ q. (h.1.1.1 q).1.0;
            },
            record { last = λ q. (h.1.0 q).1.1; entry = λ q. (h.1.1.0 q).1.1; end = λ q. (h.1.1.1 q).1.1 },
          ),
      λ (s, x).
          r.1 (
            s.first,
            (
              λ q. (ap (λ (y : Flows). y.main) (s.last q), (ap (λ (y : Flows). y.ramp) (s.last q), x.last q)),
              (λ q. (s.entry_vehicles q, (s.entry_main q, x.entry q)), λ q. (s.exit_queue q, (s.exit_ramp q, x.end q))),
            ),
          ),
    )

-- a record that says no exit is tested as one that says zero where it is fixed
unsaid : (t a b x : Bool) → (t ≡ true → x ≡ true) → implies t (a && (b && x)) ≡ implies t (a && (b && true))
unsaid true a b x h = ap (λ (y : Bool). a && (b && y)) (h refl)
unsaid false a b x h = refl

pub fixed_unsaid : (road : Road) (k i : ℕ) (state : NodeState) (flows : Flows) (said : Option Units) → NoExit road k i said
    → fixed_fault road k i state flows said ≡ fixed_fault road k i state flows None
unfolding fixed_fault
fixed_unsaid road k i state flows said n =
    let last = unsaid (eqb k road.steps) (eqb flows.main 0) (eqb flows.ramp 0) (exit_kept said 0) (λ e. n.last ((eq_holds k road.steps).0 e)) in
    let entry = unsaid (eqb i 0) (eqb state.vehicles 0) (eqb flows.main 0) (exit_kept said 0) (λ e. n.entry ((eq_holds i 0).0 e)) in
    let end = unsaid (eqb i road.links) (eqb state.queue 0) (eqb flows.ramp 0) (exit_kept said 0) (λ e. n.end ((eq_holds i road.links).0 e)) in
    λ z. unless (implies (eqb k 0) (same_state state (road.node i).start) && (last z && (entry z && end z))) 7

-- ---- 8 to 11. the flows are permitted, the exit is right where it is said, and the next state is the one that rule 6 gives

pub record Stepped (junction : Junction) (flows : Flows) (moved after : NodeState) : Type 0 where
  pub permitted : Permitted junction flows
  pub moves : after ≡ moved

-- ---- 12. the fault that is left where 8 to 11 are not due

abbrev pub queue_fault : ℕ → ℕ → ℕ
queue_fault queue_limit queue = unless (leb queue queue_limit) 12

pub queue_iff : (queue_limit queue : ℕ) → (queue_fault queue_limit queue ≡ 0) ↔ (queue ≤ queue_limit)
queue_iff queue_limit queue = no_fault _ 12 (λ e. omega arith) (le_holds queue queue_limit)

-- what a record that says an exit says: that of its f
abbrev pub ExitRight : Junction → Flows → Option Units → Type 0
ExitRight junction flows said = exit_kept said (exit flows.main junction.split) ≡ true

next_iff : (moved after : NodeState) (queue_limit : ℕ) → (next_fault moved after queue_limit ≡ 0) ↔ ((after ≡ moved) × (after.queue ≤ queue_limit))
unfolding next_fault
next_iff moved after queue_limit = then_no_fault _ 11 _ (λ e. omega arith) (same_state_holds after moved) (queue_iff queue_limit after.queue)

pub step_iff : (junction : Junction) (flows : Flows) (said : Option Units) (moved after : NodeState)
    → (step_fault junction flows said moved after ≡ 0)
    ↔ (Stepped junction flows moved after × ExitRight junction flows said × (after.queue ≤ junction.ramp.queue_limit))
unfolding step_fault
step_iff junction flows said moved after =
    let r = then_no_fault _ 8 _ (λ e. omega arith) (le_holds flows.main (sending junction.link junction.state.vehicles junction.link.full_speed))
    (then_no_fault _ 9 _ (λ e. omega arith) (le_holds (outflow flows junction.split) junction.supply)
    (then_no_fault _ 10 _ (λ e. omega arith) (le_holds flows.ramp (min junction.state.queue junction.ramp.capacity))
    (then_no_fault {A = ExitRight junction flows said} _ 11 _ (λ e. omega arith) (λ e. e, λ e. e) (next_iff moved after junction.ramp.queue_limit)))) in (
      λ e.
          let h = r.0 e in (
            record { permitted = record { sent = h.0; fits = h.1.0; offered = h.1.1.0 }; moves = h.1.1.1.1.0 },
            h.1.1.1.0,
            h.1.1.1.1.1,
          ),
      λ (s, x, q). r.1 (s.permitted.sent, (s.permitted.fits, (s.permitted.offered, (x, (s.moves, q))))),
    )

first_then : (t : Bool) (rest : ℕ) → first_fault (unless t 11) rest ≡ unless_then t 11 rest
first_then true rest = refl
first_then false rest = refl

-- where 8, 9 and 10 are not due: the fault of the exit, or else that of the next state
pub exit_first : (junction : Junction) (flows : Flows) (said : Option Units) (moved after : NodeState) → Permitted junction flows
    → step_fault junction flows said moved after
    ≡ first_fault (unless (exit_kept said (exit flows.main junction.split)) 11) (next_fault moved after junction.ramp.queue_limit)
unfolding step_fault
exit_first junction flows said moved after permitted =
    then_passes _ 8 _ ((le_holds _ _).1 permitted.sent)
    ∙ then_passes _ 9 _ ((le_holds _ _).1 permitted.fits)
    ∙ then_passes _ 10 _ ((le_holds _ _).1 permitted.offered)
    ∙ sym (first_then (exit_kept said (exit flows.main junction.split)) (next_fault moved after junction.ramp.queue_limit))

-- a record that says no exit is tested as one that says the right one
pub step_unsaid : (junction : Junction) (flows : Flows) (said : Option Units) (moved after : NodeState) → ExitRight junction flows said
    → step_fault junction flows said moved after ≡ step_fault junction flows None moved after
unfolding step_fault
step_unsaid junction flows said moved after x =
    ap
    (λ (t : Bool).
    unless_then (leb flows.main (sending junction.link junction.state.vehicles junction.link.full_speed)) 8
    (unless_then (leb (outflow flows junction.split) junction.supply) 9
    (unless_then (leb flows.ramp (min junction.state.queue junction.ramp.capacity)) 10
    (unless_then t 11 (next_fault moved after junction.ramp.queue_limit)))))
    x

-- where 8 to 11 are not due, what is left is 12
pub step_queue : (junction : Junction) (flows : Flows) (said : Option Units) (moved after : NodeState) → Stepped junction flows moved after → ExitRight junction flows said
    → step_fault junction flows said moved after ≡ queue_fault junction.ramp.queue_limit after.queue
unfolding step_fault next_fault
step_queue junction flows said moved after s x =
    then_passes _ 8 _ ((le_holds _ _).1 s.permitted.sent)
    ∙ then_passes _ 9 _ ((le_holds _ _).1 s.permitted.fits)
    ∙ then_passes _ 10 _ ((le_holds _ _).1 s.permitted.offered)
    ∙ then_passes _ 11 _ x
    ∙ then_passes _ 11 _ ((same_state_holds after moved).1 s.moves)

-- ---- one node, by value

-- what the tests of 8, 9 and 10 leave: sent and part are what the link may send and the through part of f, as calls gave them
pub permitted_told : (a : junctions.Junction) (f : flows.Flows) (sent part : ℕ) → sent ≡ sending (link_of a.link) a.state.vehicles.0 a.link.full_speed.0
    → f.main.0 ≤ sent → part ≡ through f.main.0 a.split.0 → part + f.ramp.0 ≤ a.supply.0 → f.ramp.0 ≤ a.state.queue.0 → f.ramp.0 ≤ a.ramp.capacity.0
    → Permitted (junction_of a) (flows_of f)
unfolding outflow
permitted_told a f sent part e h q fits queue capacity = record { sent = omega arith; fits = omega arith; offered = omega arith }
