-- Laws of a step: the loop that writes its flows, the loop that moves its nodes, and what the one leaves to the other.
use Prim.Native.Nat.{ℕ, suc, ◌+◌, ◌*◌, ◌≤◌, ◌<◌}
use mathlib.Core.List.{List, []}
use mathlib.Core.Path.{◌≡◌, refl, sym, ap, ap₂, subst, ◌∙◌}
use native.Mathlib.Nat.{le_trans}
use native.Mathlib.Numerals.{add-one}
use native.Mathlib.Omega.{arith}
use lib.Dec.{lit<}
use lib.ListN.{get_or, set}
use Rattle.tables.specs.Grid.{row_words}
use Rattle.tables.proofs.Grid.{row_words_length, row_words_at, Placed, placed_two, placed_ended}
use Rattle.tables.proofs.Sum.{Summed, summed_begun, summed_more, summed_ended}
use Rattle.road.specs.declared.Flows as flows
use Rattle.road.specs.declared.NodeState as states
use Rattle.road.specs.Corridor.{NodeState, Flows}
use Rattle.road.specs.Step.{Junction, receiving, exit, flows_with, outflow, moved}
use Rattle.road.specs.Run.{supply, junction, inflow, next, no_flow, state_cost}
use Rattle.road.specs.Values.{state_of, flows_of}
use Rattle.road.proofs.Rules.{flows_eq, sending_le, through_le, flows_sent, flows_offered}
use Rattle.lists.specs.Words.{Width}
use Rattle.lists.specs.Rows.{state_in, step_road}
use Rattle.lists.specs.Fits.{RowFits, NodeIn}
use Rattle.lists.proofs.Rows.{node_among}
use Rattle.link_table.specs.Table.{link_in, table_road}
use Rattle.link_table.proofs.Table.{supply_next, supply_ends}
use Rattle.simulate_rows.specs.Rows.{put_node, flows_from, row_flows, flow_word, flow_row, passed_in, left_in, record_row, next_in, next_row, RowsFit, MoveKept, MovesFit, NodeMoved, RowMoved}
use Rattle.simulate_rows.proofs.Rows.{Written, written_begun, written_more, written_ended, state_more, state_waits}

-- ---- as a loop's invariant: the flows of the first i nodes are written

module _ (table : List ℕ) (links : ℕ) (demand : List ℕ) (downstream : ℕ) (plan state : List ℕ) where
  abbrev passes : ℕ → Flows
  passes = row_flows table links demand downstream plan state

  abbrev word : ℕ → ℕ → ℕ
  word i = flow_word (passes i)

  pub record Flowing (i : ℕ) (d l : List ℕ) : Type 0 where
    pub bound : i ≤ links
    pub placed : Placed 2 i (links + 1) (λ j. flow_word (row_flows table links demand downstream plan state j)) d l

  told : (i s : ℕ) → s ≡ supply (table_road table links demand downstream) 0 (state_in 2 state) i → flows_from table demand plan state s i ≡ passes i
  unfolding row_flows junction table_road
  told i s e = ap (λ (x : ℕ). flows_from table demand plan state x i) e

  stored : (i : ℕ) (d l l' : List ℕ) (f : flows.Flows) → Placed 2 i (links + 1) word d l → i < links + 1 → flows_of f ≡ passes i
      → l' ≡ set (set l (i * 2) f.main.0) (i * 2 + 1) f.ramp.0 → Placed 2 (i + 1) (links + 1) word d l'
  stored i d l l' f p h e q =
      subst (λ (x : List ℕ). Placed 2 (i + 1) (links + 1) word d x) (sym q)
      (placed_two i (links + 1) word d l (i * 2) f.main.0 f.ramp.0 p h refl (ap (λ (x : Flows). x.main) e) (ap (λ (x : Flows). x.ramp) e))

  -- f is what the code computes with s, the receiving of the next link
  pub flowing_more : (i s : ℕ) (d l l' : List ℕ) (f : flows.Flows) → Flowing i d l → i < links → s ≡ receiving (link_in table (i + 1)) (state_in 2 state (i + 1)).vehicles
      → flows_of f ≡ flows_from table demand plan state s i → l' ≡ set (set l (i * 2) f.main.0) (i * 2 + 1) f.ramp.0 → Flowing (i + 1) d l'
  flowing_more i s d l l' f w h r e q =
      record { bound = omega arith; placed = stored i d l l' f w.placed (omega arith) (e ∙ told i s (supply_next 2 table state demand downstream links i s h r)) q }

  -- at node N with what may pass beyond link N
  pub flowing_ended : (i : ℕ) (d l l' : List ℕ) (f : flows.Flows) → Flowing i d l → links ≤ i → flows_of f ≡ flows_from table demand plan state downstream links
      → l' ≡ set (set l (links * 2) f.main.0) (links * 2 + 1) f.ramp.0 → l' ≡ flow_row table links demand downstream plan state
  unfolding flow_row
  flowing_ended i d l l' f w h e q =
      let n : i ≡ links = omega (arith, w.bound) in
      let at : Placed 2 links (links + 1) word d l = subst (λ (j : ℕ). Placed 2 j (links + 1) word d l) n w.placed in
      placed_ended 2 (links + 1) (links + 1) word d l' (stored links d l l' f at (omega arith) (e ∙ told links downstream (supply_ends 2 table state demand downstream links links refl)) q) (omega arith)
      ∙ ap (λ (m : ℕ). row_words 2 m word) (add-one links)

-- ---- what the flows of a step leave to rule 6

-- no more leaves a link than is on it
main_le : (a : Junction) (rate limit : ℕ) → limit ≤ 65536 → (flows_with a rate limit).main ≤ a.state.vehicles
main_le a rate limit h = le_trans (flows_sent a rate limit) (sending_le a.link a.state.vehicles limit h)

module _ (table : List ℕ) (links : ℕ) (demand : List ℕ) (downstream : ℕ) (plan state passed : List ℕ) (e : passed ≡ flow_row table links demand downstream plan state) where
  pub flows_fit_lem : RowFits 2 passed links
  unfolding flow_row
  flows_fit_lem = ap lib.ListN.length e ∙ row_words_length 2 (suc links) (λ i. flow_word (row_flows table links demand downstream plan state i))

  pub flows_told : (i : ℕ) → i ≤ links → passed_in passed i ≡ row_flows table links demand downstream plan state i
  unfolding passed_in flow_row
  flows_told i h =
      let word : (q : ℕ) → q < 2 → get_or passed (i * 2 + q) 0 ≡ flow_word (row_flows table links demand downstream plan state i) q =
      λ q b. ap (λ (x : List ℕ). get_or x (i * 2 + q) 0) e ∙ row_words_at 2 (suc links) (λ j. flow_word (row_flows table links demand downstream plan state j)) i q 0 (omega arith) b in
      flows_eq _ _ (word 0 (lit< tt)) (word 1 (lit< tt))

  pub moves_fit : RowsFit table demand plan state links → MovesFit demand state passed links
  unfolding row_flows junction
  moves_fit rows =
      record {
        few = rows.few;
        demand_fits = rows.demand_fits;
        state_fits = rows.state_fits;
        flows_fit = flows_fit_lem;
        kept = λ i h.
            let k = rows.kept i h in
            let j : Junction = junction (table_road table links demand downstream) 0 (state_in 2 state) i in
            let rate : ℕ = get_or plan (i * 2 + 0) 0 in
            let limit : ℕ = get_or plan (i * 2 + 1) 0 in
            let main = ap (λ (x : Flows). x.main) (flows_told i h) in
            let ramp = ap (λ (x : Flows). x.ramp) (flows_told i h) in
            record {
              main = omega (arith, main_le j rate limit k.limit, main);
              ramp = omega (arith, flows_offered j rate limit, ramp);
              vehicles = k.vehicles;
              queue = k.queue;
              arrivals = k.arrivals;
              split = k.split;
            };
      }

-- ---- one node moved, as its calls gave it

-- s, f, b and q are its state, flows, split and arrivals, x its exit
module _ (demand state passed : List ℕ) (i : ℕ) (kept : MoveKept demand state passed i) (s : states.NodeState) (f : flows.Flows) (b q : ℕ)
    (hs : state_of s ≡ state_in 2 state i) (hf : flows_of f ≡ passed_in passed i) (hb : b ≡ get_or demand (i * 2 + 1) 0) (hq : q ≡ get_or demand (i * 2 + 0) 0) where
  n : s.vehicles.0 ≡ (state_in 2 state i).vehicles
  n = ap (λ (x : NodeState). x.vehicles) hs

  l : s.queue.0 ≡ (state_in 2 state i).queue
  l = ap (λ (x : NodeState). x.queue) hs

  main : f.main.0 ≡ (passed_in passed i).main
  main = ap (λ (x : Flows). x.main) hf

  ramp : f.ramp.0 ≡ (passed_in passed i).ramp
  ramp = ap (λ (x : Flows). x.ramp) hf

  pub left_told : (x : ℕ) → x ≡ exit f.main.0 b → x ≡ left_in demand passed i
  left_told x e = e ∙ ap₂ exit main hb

  pub outward_told : (x : ℕ) → x ≡ outflow (flows_of f) b → (x ≡ outflow (passed_in passed i) (get_or demand (i * 2 + 1) 0)) × (x ≤ 228655104)
  unfolding outflow
  outward_told x e = (e ∙ (λ z. outflow (hf z) (hb z)), omega (arith, kept, main, ramp, through_le f.main.0 b))

  pub moved_told : (gained : ℕ) (r : states.NodeState) → state_of r ≡ moved (state_of s) gained q (flows_of f) → state_of r ≡ moved (state_in 2 state i) gained (get_or demand (i * 2 + 0) 0) (passed_in passed i)
  moved_told gained r e = e ∙ (λ z. moved (hs z) gained (hq z) (hf z))

  -- x is the exit, r the next state, o what is passed on and t the sum, as calls gave them
  pub node_moved : (width gained x o t : ℕ) (r : states.NodeState) (row row' state' : List ℕ) → x ≡ exit f.main.0 b → row' ≡ put_node width row i (state_of s) (flows_of f) x
      → state_of r ≡ moved (state_of s) gained q (flows_of f) → state' ≡ set (set state (i * 2) r.vehicles.0) (i * 2 + 1) r.queue.0 → o ≡ outflow (flows_of f) b
      → (t ≡ r.vehicles.0 + r.queue.0) × (t ≤ 8589934590) → NodeMoved width demand state passed row i gained state' row' o t
  node_moved width gained x o t r row row' state' hx put hr store ho ht =
      let to = moved_told gained r hr in
      record {
        stored = put ∙ (λ z. put_node width row i (hs z) (hf z) (left_told x hx z));
        moves = store ∙ (λ z. set (set state (i * 2) (to z).vehicles) (i * 2 + 1) (to z).queue);
        passes = (outward_told o ho).0;
        small = (outward_told o ho).1;
        adds = ht.0 ∙ (λ z. (to z).vehicles + (to z).queue);
        low = ht.1;
      }

-- ---- as a loop's invariant: the first i nodes have moved, d and d' are state and row as lent, and what link i gains is at hand

pub record Moving (width i links : ℕ) (demand flows d l d' row : List ℕ) (gained total : ℕ) : Type 0 where
  pub rows : Written width i links (state_in 2 d) (passed_in flows) (left_in demand flows) d' row
  pub states : Written 2 i links (next_in demand d flows) (λ j. no_flow) (λ j. 0) d l
  pub gains : gained ≡ inflow (step_road [] demand 0) 0 (passed_in flows) i
  pub small : gained ≤ 228655104
  pub summed : Summed i (links + 1) 8589934590 (λ j. (next_in demand d flows j).vehicles + (next_in demand d flows j).queue) total

module _ (width links : ℕ) (demand passed d d' : List ℕ) where
  pub moving_begun : RowFits 2 d links → RowFits width d' links → Moving width 0 links demand passed d d d' d' 0 0
  unfolding inflow
  moving_begun e q =
      record {
        rows = written_begun width links _ _ _ d' q;
        states = written_begun 2 links _ _ _ d e;
        gains = refl;
        small = omega arith;
        summed = summed_begun (links + 1) 8589934590 _;
      }

  module _ (i : ℕ) (l row : List ℕ) (gained total : ℕ) (m : Moving width i links demand passed d l d' row gained total) where
    -- what moving node i asks
    pub moving_asks : MovesFit demand d passed links → i < links + 1 → Width width
        → (NodeIn 2 demand i × NodeIn 2 l i × NodeIn 2 passed i × NodeIn width row i × Width width) × (MoveKept demand l passed i × (gained ≤ 228655104))
    moving_asks fits h wide =
        let k = fits.kept i (omega arith) in
        let s = state_waits i links _ d l m.states in
        let vehicles = ap (λ (x : NodeState). x.vehicles) s in
        let queue = ap (λ (x : NodeState). x.queue) s in (
          (node_among 2 links i demand fits.demand_fits h, node_among 2 links i l (m.states.room ∙ omega arith) h, node_among 2 links i passed fits.flows_fit h, node_among width links i row (m.rows.room ∙ ap (λ (x : ℕ). x * width) (add-one links)) h, wide),
          (record { main = omega (arith, k.main, vehicles); ramp = omega (arith, k.ramp, queue); vehicles = omega (arith, k.vehicles, vehicles); queue = omega (arith, k.queue, queue); arrivals = k.arrivals; split = k.split }, m.small),
        )

    pub moving_more : (l' row' : List ℕ) (outward t : ℕ) → Width width → i < links + 1 → NodeMoved width demand l passed row i gained l' row' outward t
        → Moving width (i + 1) links demand passed d l' d' row' outward (total + t)
    unfolding next_in next inflow step_road
    moving_more l' row' outward t wide h g =
        let s : state_in 2 l i ≡ state_in 2 d i = state_waits i links _ d l m.states in
        let to : moved (state_in 2 l i) gained (get_or demand (i * 2 + 0) 0) (passed_in passed i) ≡ next_in demand d passed i =
        λ z. moved (s z) (m.gains z) (get_or demand (i * 2 + 0) 0) (passed_in passed i) in
        record {
          rows = written_more width i links _ _ _ d' row row' _ _ _ wide m.rows h s refl refl g.stored;
          states = state_more i links _ d l l' _ m.states h to g.moves;
          gains = g.passes ∙ ap (inflow (step_road [] demand 0) 0 (passed_in passed)) (sym (add-one i));
          small = g.small;
          summed = summed_more i (links + 1) 8589934590 _ total t m.summed h (g.adds ∙ ap (λ (x : NodeState). x.vehicles + x.queue) to) g.low;
        }

    pub moving_ended : links + 1 ≤ i → links ≤ 64 → RowMoved width demand d passed links row l total
    unfolding record_row next_row
    moving_ended h few =
        record {
          written = written_ended width i links _ _ _ d' row m.rows h;
          moves = written_ended 2 i links _ _ _ d l m.states h;
          adds = summed_ended i (links + 1) 8589934590 _ total m.summed h ∙ ap (λ (x : ℕ). state_cost x (next_in demand d passed)) (add-one links);
          low = omega (arith, m.summed.low, m.summed.bound);
        }
