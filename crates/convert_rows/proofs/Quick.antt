-- Laws of the quick test of a step: what its loops ask and keep, and that where it holds no refusal of 8 to 12 is due.
use Prim.Native.Nat.{ℕ, zero, suc, ◌+◌, ◌*◌, ◌≤◌, ◌<◌}
use mathlib.Core.List.{List, []}
use mathlib.Core.Logic.{⊎_elim}
use mathlib.Core.Path.{◌≡◌, refl, sym, ap, subst, subst₂, ◌∙◌}
use native.Mathlib.Omega.{arith}
use borrow.Author.Count.{below_more}
use lib.ListN.{get_or}
use Rattle.tables.specs.Answer.{Accepted}
use Rattle.tables.specs.First.{first_node}
use Rattle.tables.proofs.First.{first_node_accepts}
use Rattle.tables.proofs.Numbers.{le_or_lt}
use Rattle.tables.proofs.Sum.{Summed, summed_begun, summed_more}
use Rattle.road.specs.declared.NodeState as states
use Rattle.road.specs.declared.Junction as junctions
use Rattle.road.specs.declared.Flows as flows
use Rattle.road.specs.Corridor.{Link, Ramp, NodeState}
use Rattle.road.specs.Step.{Junction, outflow, moved}
use Rattle.road.specs.Run.{supply, junction, inflow, next}
use Rattle.road.specs.Values.{link_of, ramp_of, state_of, junction_of, flows_of}
use Rattle.settings.specs.Share.{Permitted}
use Rattle.record_faults.proofs.Records.{step_iff}
use Rattle.lists.specs.Words.{links_of, Width}
use Rattle.lists.specs.Rows.{state_in, flows_in, step_road}
use Rattle.lists.specs.Fits.{NodeIn}
use Rattle.lists.proofs.Rows.{node_in_lem}
use Rattle.link_table.specs.Table.{link_in, ramp_in, table_of, table_road}
use Rattle.link_table.proofs.Table.{table_fits_lem, link_told, ramp_told, junction_told, supply_ends}
use Rattle.simulate_rows.proofs.Rows.{row_summed}
use Rattle.convert_rows.specs.Rows.{step_fault_in, RowsKept, SentKept}
use Rattle.convert_rows.specs.Quick.{TableKept, OfferedKept, FlowsFit, FlowsKept, NodeMoves, gains_in, MovesKept}
use Rattle.convert_rows.proofs.Steps.{permitted_held, Gaining, gaining_begun, gaining_more}

-- ---- what is asked

-- node i's words are in the corridor's table
pub in_table : (corridor table : List ℕ) (links i : ℕ) → table ≡ table_of corridor links → i ≤ links → NodeIn 8 table i
in_table corridor table links i e h = node_in_lem 8 links i table (table_fits_lem corridor links table e) h

pub tabled : (width : ℕ) (corridor table demand row : List ℕ) (links : ℕ) → table ≡ table_of corridor links → RowsKept width corridor demand row links
    → TableKept width table demand row links
tabled width corridor table demand row links e r = record { corridor = corridor; told = e; rows = r }

module _ (width : ℕ) (table demand row : List ℕ) (links : ℕ) (kept : TableKept width table demand row links) where
  pub node_room : (i : ℕ) → i ≤ links → NodeIn 8 table i × NodeIn 2 demand i × NodeIn width row i × Width width
  node_room i h =
      let rows = kept.rows in
      (in_table _ table links i kept.told h, node_in_lem 2 links i demand rows.demand_fits h, node_in_lem width links i row rows.row_fits h, rows.wide)

  -- what the receiving of the next link asks
  pub next_asks : (i : ℕ) → i < links
      → (NodeIn 8 table (i + 1) × NodeIn width row (i + 1) × (1 ≤ width)) × ((state_in width row (i + 1)).vehicles ≤ (link_in table (i + 1)).jam)
  next_asks i h =
      let room = node_room (i + 1) (omega arith) in (
        (room.0, room.2, omega (arith, room.3.least)),
        omega (arith, (kept.rows.kept (i + 1) (omega arith)).jam, ap (λ (x : Link). x.jam) (link_told _ links table kept.told (i + 1) (omega arith))),
      )

  pub flows_held : (downstream : ℕ) → FlowsKept width table demand downstream row links → SentKept width row links × OfferedKept width row links
  flows_held downstream sent = (λ i h. (held i h).0, λ i h. (held i h).1)
    where
      held : (i : ℕ) → i ≤ links → ((flows_in width row i).main ≤ (state_in width row i).vehicles) × ((flows_in width row i).ramp ≤ (state_in width row i).queue)
      held i h =
          permitted_held _ _ (sent i h)
          (omega (arith, ap (λ (x : Link). x.full_speed) (link_told _ links table kept.told i h), (kept.rows.kept i h).full_speed))

-- ---- one node, by value

-- a and f are the node and its flows as the code has them
pub fit_told : (width : ℕ) (table demand row : List ℕ) (i : ℕ) (a : junctions.Junction) (f : flows.Flows) → link_of a.link ≡ link_in table i → ramp_of a.ramp ≡ ramp_in table i
    → state_of a.state ≡ state_in width row i → flows_of f ≡ flows_in width row i → a.split.0 ≡ get_or demand (i * 2 + 1) 0 → Permitted (junction_of a) (flows_of f)
    → FlowsFit width table demand row a.supply.0 i
fit_told width table demand row i a f l r s q b p =
    subst₂ Permitted (λ z. record { link = l z; ramp = r z; state = s z; split = b z; supply = a.supply.0 }) q p

-- ---- 8, 9 and 10, as the last call has them

pub flows_ended : (width : ℕ) (table demand : List ℕ) (downstream : ℕ) (row : List ℕ) (links : ℕ)
    → ((j : ℕ) → j < links → FlowsFit width table demand row (supply (table_road table links demand downstream) 0 (state_in width row) j) j)
    → FlowsFit width table demand row downstream links → FlowsKept width table demand downstream row links
flows_ended width table demand downstream row links before last i h =
    ⊎_elim
    (λ (g : links ≤ i).
    let e : i ≡ links = omega arith in
    subst (λ (x : ℕ). FlowsFit width table demand row x i) (supply_ends width table row demand downstream links i e)
    (subst (λ (j : ℕ). FlowsFit width table demand row downstream j) (sym e) last))
    (λ (g : i < links). before i g)
    (le_or_lt links i)

-- ---- 11 and 12, as a loop's invariant: none of the first i nodes has a fault, g is what link i gains, and c their vehicles and queues after the step

pub record Moving (width i links : ℕ) (table demand row after : List ℕ) (g c : ℕ) : Type 0 where
  pub each : (j : ℕ) → j < i → NodeMoves width table demand row after (gains_in width demand row j) j
  pub gaining : Gaining (step_road [] demand 0) (flows_in width row) i g
  pub summed : Summed i (links + 1) 8589934590 (λ j. (state_in width after j).vehicles + (state_in width after j).queue) c

pub moving_begun : (width links : ℕ) (table demand row after : List ℕ) → Moving width 0 links table demand row after 0 0
moving_begun width links table demand row after = record { each = λ j h. absurd (omega arith); gaining = gaining_begun _ _; summed = summed_begun _ _ _ }

-- x is what node i passes on, and s its state after the step, as calls gave them
pub moving_more : (width i links : ℕ) (table demand row after : List ℕ) (g c x : ℕ) (s : states.NodeState) → Moving width i links table demand row after g c → i < links + 1
    → NodeMoves width table demand row after g i → x ≡ outflow (flows_in width row i) (get_or demand (i * 2 + 1) 0) → x ≤ 134283264 → state_of s ≡ state_in width after i
    → s.vehicles.0 + s.queue.0 ≤ 8589934590 → Moving width (i + 1) links table demand row after x (c + (s.vehicles.0 + s.queue.0))
unfolding step_road
moving_more width i links table demand row after g c x s m h n e b q l =
    record {
      each = below_more _ _ m.each (subst (λ (y : ℕ). NodeMoves width table demand row after y i) m.gaining.is n);
      gaining = gaining_more (step_road [] demand 0) (flows_in width row) i x e b;
      summed = summed_more _ _ _ _ _ _ m.summed h (ap (λ (y : NodeState). y.vehicles + y.queue) q) l;
    }

pub moving_ended : (width i links : ℕ) (table demand row after : List ℕ) (g c : ℕ) → Moving width i links table demand row after g c → links + 1 ≤ i → links ≤ 64
    → MovesKept width table demand row after links c
moving_ended width i links table demand row after g c m h few =
    let total = row_summed width i links after c m.summed h few in
    record { each = λ j b. m.each j (omega arith); adds = total.0; low = total.1 }

-- ---- where the test holds no refusal of 8 to 12 is due

-- the corridor has no part in what a link gains
gains_told : (corridor demand row : List ℕ) (width downstream i : ℕ) → gains_in width demand row i ≡ inflow (step_road corridor demand downstream) 0 (flows_in width row) i
unfolding inflow step_road
gains_told corridor demand row width downstream zero = refl
gains_told corridor demand row width downstream (suc i) = refl

module _ (width : ℕ) (corridor table demand : List ℕ) (downstream : ℕ) (row after : List ℕ) (links : ℕ) (told : table ≡ table_of corridor links) (n : links ≡ links_of corridor)
    (sent : FlowsKept width table demand downstream row links) (c : ℕ) (moves : MovesKept width table demand row after links c) where
  none : (i : ℕ) → i ≤ links → step_fault_in width corridor demand downstream row after i ≡ 0
  unfolding step_fault_in junction next step_road table_road
  none i h =
      let m = moves.each i h in
      (step_iff _ _ _ _ _).1 (
        record {
          permitted = subst (λ (x : Junction). Permitted x (flows_in width row i)) (junction_told corridor links table told demand downstream (state_in width row) n i h) (sent i h);
          moves = m.moves ∙ ap (λ (x : ℕ). moved (state_in width row i) x (get_or demand (i * 2 + 0) 0) (flows_in width row i)) (gains_told corridor demand row width downstream i);
        },
        m.exits,
        omega (arith, m.queue, ap (λ (x : Ramp). x.queue_limit) (ramp_told corridor links table told i h)),
      )

  pub quick_accepts : (k : ℕ) → Accepted ≡ first_node (suc links) k (step_fault_in width corridor demand downstream row after)
  quick_accepts k = sym ((first_node_accepts (suc links) k _).1 (λ i h. none i (omega arith)))
