-- Laws of a step's rows: a node's words lie in them, and what the code reads of the next link is the supply of a node.
use Prim.Native.Nat.{ℕ, suc, ◌+◌, ◌≤◌, ◌<◌}
use mathlib.Core.Path.{◌≡◌, sym, ap, ap₂, ◌∙◌}
use mathlib.Core.List.{List}
use native.Mathlib.Numerals.{add-one}
use native.Mathlib.Omega.{arith}
use Rattle.road.specs.declared.Link as links
use Rattle.road.specs.declared.NodeState as states
use Rattle.tables.proofs.Numbers.{row_fits_lem}
use Rattle.road.specs.Corridor.{Link, NodeState, Road}
use Rattle.road.specs.Step.{receiving}
use Rattle.road.specs.Run.{supply}
use Rattle.road.specs.Values.{link_of, state_of}
use Rattle.road.proofs.Runs.{supply_inside, supply_last}
use Rattle.lists.specs.Words.{links_of, node_at}
use Rattle.lists.specs.Rows.{state_in, step_road}
use Rattle.lists.specs.Fits.{RowFits, NodeIn, JamKept}

-- a node's words lie in a row that has room for nodes 0..N
pub node_in_lem : (width links i : ℕ) (row : List ℕ) → RowFits width row links → i ≤ links → NodeIn width row i
node_in_lem width links i row e h = omega (arith, row_fits_lem i (suc links) width (omega arith))

-- i as a loop over nodes 0..N has it
pub node_among : (width links i : ℕ) (row : List ℕ) → RowFits width row links → i < links + 1 → NodeIn width row i
node_among width links i row e h = node_in_lem width links i row e (omega arith)

-- the node after it
pub node_after : (width links i : ℕ) (row : List ℕ) → RowFits width row links → i < links → NodeIn width row (i + 1)
node_after width links i row e h = node_in_lem width links (i + 1) row e (omega arith)

-- the next link, as it is read, holds no more than its jam
pub next_jam_kept : (width : ℕ) (corridor row : List ℕ) (count i : ℕ) (link : links.Link) (state : states.NodeState) → JamKept width corridor row count → i < count
    → link_of link ≡ (node_at corridor (i + 1)).link → state_of state ≡ state_in width row (i + 1) → state.vehicles.0 ≤ link.jam.0
next_jam_kept width corridor row count i link state kept h l s =
    omega (arith, kept (i + 1) (omega arith), ap (λ (x : NodeState). x.vehicles) s, ap (λ (x : Link). x.jam) l)

-- below N, the receiving of the next link
pub supply_next : (width : ℕ) (corridor row demand : List ℕ) (downstream count i x : ℕ) (link : links.Link) (state : states.NodeState)
    → count ≡ links_of corridor → i < count → link_of link ≡ (node_at corridor (i + 1)).link → state_of state ≡ state_in width row (i + 1)
    → x ≡ receiving (link_of link) state.vehicles.0 → x ≡ supply (step_road corridor demand downstream) 0 (state_in width row) i
unfolding step_road
supply_next width corridor row demand downstream count i x link state n h l s e =
    e
    ∙ ap₂ receiving l (ap (λ (y : NodeState). y.vehicles) s)
    ∙ ap (λ (j : ℕ). receiving (node_at corridor j).link (state_in width row j).vehicles) (add-one i)
    ∙ sym (supply_inside (step_road corridor demand downstream) 0 (state_in width row) i (omega arith))

-- at node N, what may pass beyond link N
pub supply_ends : (width : ℕ) (corridor row demand : List ℕ) (downstream count i : ℕ) → count ≡ links_of corridor → i ≤ count → count ≤ i
    → downstream ≡ supply (step_road corridor demand downstream) 0 (state_in width row) i
unfolding step_road
supply_ends width corridor row demand downstream count i n a b =
    let e : links_of corridor ≡ i = omega arith in
    let road : Road = step_road corridor demand downstream in
    sym (supply_last road 0 (state_in width row)) ∙ ap (supply road 0 (state_in width row)) e
