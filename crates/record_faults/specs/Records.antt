-- The fault of one node by refusals 7 to 12 of document 01, 7 and 11 with the exits of request 04, and that of a cost by 13: its number, or 0.
use Rattle.std.specs.Prelude.{ℕ, zero, suc, ◌/◌, ◌%◌, min, Bool, true, false, ◌&&◌, leb, eqb, Option, Some, None}
use Rattle.tables.specs.Answer.{unless}
use Rattle.road.specs.declared.Units.{Units}
use Rattle.road.specs.Corridor.{NodeState, Road, Flows}
use Rattle.road.specs.Step.{Junction, sending, exit, outflow}
use Rattle.faults.specs.Lists.{implies}

abbrev pub same_state : NodeState → NodeState → Bool
same_state x y = eqb x.vehicles y.vehicles && eqb x.queue y.queue

-- whether a record that says an off-ramp flow says this one
abbrev pub exit_kept : Option Units → ℕ → Bool
exit_kept None flow = true
exit_kept (Some said) flow = eqb said.0 flow

-- a fault's number unless the test holds, and then the rest
abbrev pub unless_then : Bool → ℕ → ℕ → ℕ
unless_then true x rest = rest
unless_then false x rest = x

-- ---- 7. state 0 not the corridor's, or a fixed zero not zero: f, r and exit in state K, n, f and exit of node 0, l, r and exit of node N

unfoldable pub fixed_fault : Road → ℕ → ℕ → NodeState → Flows → Option Units → ℕ
fixed_fault road k i state flows said =
    unless
    (implies (eqb k 0) (same_state state (road.node i).start)
    && (implies (eqb k road.steps) (eqb flows.main 0 && (eqb flows.ramp 0 && exit_kept said 0))
    && (implies (eqb i 0) (eqb state.vehicles 0 && (eqb flows.main 0 && exit_kept said 0))
    && implies (eqb i road.links) (eqb state.queue 0 && (eqb flows.ramp 0 && exit_kept said 0)))))
    7

-- ---- 8. f too large; 9. T(f) + r > S; 10. r > min(l, C); 11. exit wrong, or next n or l wrong; 12. next l > L

-- of the next state: the one that rule 6 gives, the one that the record has, and L
unfoldable pub next_fault : NodeState → NodeState → ℕ → ℕ
next_fault moved after queue_limit = unless_then (same_state after moved) 11 (unless (leb after.queue queue_limit) 12)

-- at a node, with what the record says of its exit
unfoldable pub step_fault : Junction → Flows → Option Units → NodeState → NodeState → ℕ
step_fault junction flows said moved after =
    unless_then (leb flows.main (sending junction.link junction.state.vehicles junction.link.full_speed)) 8
    (unless_then (leb (outflow flows junction.split) junction.supply) 9
    (unless_then (leb flows.ramp (min junction.state.queue junction.ramp.capacity)) 10
    (unless_then (exit_kept said (exit flows.main junction.split)) 11
    (next_fault moved after junction.ramp.queue_limit))))

-- the first of two faults
abbrev pub first_fault : ℕ → ℕ → ℕ
first_fault zero second = second
first_fault (suc x) second = suc x

-- ---- 13. cost wrong

-- low and high are a record's two last words
unfoldable pub total_fault : ℕ → ℕ → ℕ → ℕ
total_fault total low high = unless (eqb low (total % 4294967296) && eqb high (total / 4294967296)) 13
