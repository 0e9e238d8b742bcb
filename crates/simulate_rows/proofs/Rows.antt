-- Laws of rows: the loops that write one node by node, and what a row says when it is read again.
use Prim.Native.Nat.{ℕ, suc, ◌+◌, ◌*◌, ◌≤◌, ◌<◌}
use mathlib.Core.List.{List}
use mathlib.Core.Path.{◌≡◌, refl, sym, ap, subst, ◌∙◌}
use mathlib.Core.Logic.{⊎_elim}
use native.Mathlib.Numerals.{add-one}
use native.Mathlib.Omega.{arith}
use lib.Dec.{lit<}
use lib.ListN.{get_or, set}
use Rattle.tables.specs.Grid.{row_words}
use Rattle.tables.proofs.Numbers.{le_or_lt}
use Rattle.tables.proofs.Grid.{row_words_length, row_words_at, row_words_same, Placed, placed_begun, placed_two, placed_four, placed_five, placed_ended}
use Rattle.tables.proofs.Sum.{Summed, summed_ended}
use Rattle.road.specs.Corridor.{NodeState, Flows}
use Rattle.road.specs.Run.{no_flow, state_cost}
use Rattle.road.proofs.Rules.{state_eq}
use Rattle.lists.specs.Words.{Width, node_word}
use Rattle.lists.specs.Rows.{state_in}
use Rattle.lists.specs.Fits.{RowFits}
use Rattle.simulate_rows.specs.Rows.{row_of, rest_row, put_exit, put_node, row_cost}

-- ---- a row that is written node by node

-- as a loop's invariant: the first i nodes of the row have these states, flows and off-ramp flows
abbrev pub Written : ℕ → ℕ → ℕ → (ℕ → NodeState) → (ℕ → Flows) → (ℕ → ℕ) → List ℕ → List ℕ → Type 0
Written width i links state flows off d l = Placed width i (links + 1) (λ j. node_word (state j) (flows j) (off j)) d l

pub written_begun : (width links : ℕ) (state : ℕ → NodeState) (flows : ℕ → Flows) (off : ℕ → ℕ) (d : List ℕ) → RowFits width d links → Written width 0 links state flows off d d
written_begun width links state flows off d e = placed_begun width (links + 1) (λ j. node_word (state j) (flows j) (off j)) d (omega arith)

-- s, f and x are the node's state, flows and off-ramp flow as calls gave them
module _ (i links : ℕ) (state : ℕ → NodeState) (flows : ℕ → Flows) (off : ℕ → ℕ) (d l : List ℕ) (s : NodeState) (f : Flows) (x : ℕ) (h : i < links + 1) (e : s ≡ state i) (q : f ≡ flows i) where
  more_four : Written 4 i links state flows off d l → Written 4 (i + 1) links state flows off d (put_node 4 l i s f x)
  unfolding node_word put_node put_exit
  more_four w =
      placed_four i (links + 1) (λ j. node_word (state j) (flows j) (off j)) d l (i * 4) s.vehicles s.queue f.main f.ramp w h refl
      (ap (λ (y : NodeState). y.vehicles) e) (ap (λ (y : NodeState). y.queue) e) (ap (λ (y : Flows). y.main) q) (ap (λ (y : Flows). y.ramp) q)

  more_five : x ≡ off i → Written 5 i links state flows off d l → Written 5 (i + 1) links state flows off d (put_node 5 l i s f x)
  unfolding node_word put_node put_exit
  more_five g w =
      placed_five i (links + 1) (λ j. node_word (state j) (flows j) (off j)) d l (i * 5) s.vehicles s.queue f.main f.ramp x w h refl
      (ap (λ (y : NodeState). y.vehicles) e) (ap (λ (y : NodeState). y.queue) e) (ap (λ (y : Flows). y.main) q) (ap (λ (y : Flows). y.ramp) q) g

pub written_more : (width i links : ℕ) (state : ℕ → NodeState) (flows : ℕ → Flows) (off : ℕ → ℕ) (d l l' : List ℕ) (s : NodeState) (f : Flows) (x : ℕ) → Width width
    → Written width i links state flows off d l → i < links + 1 → s ≡ state i → f ≡ flows i → x ≡ off i → l' ≡ put_node width l i s f x
    → Written width (i + 1) links state flows off d l'
written_more width i links state flows off d l l' s f x wide w h e q g p =
    subst (λ (y : List ℕ). Written width (i + 1) links state flows off d y) (sym p)
    (⊎_elim
    (λ (b : 5 ≤ width).
    let five : 5 ≡ width = omega (arith, wide.most) in
    subst (λ (c : ℕ). Written c i links state flows off d l → Written c (i + 1) links state flows off d (put_node c l i s f x)) five
    (more_five i links state flows off d l s f x h e q g) w)
    (λ (b : width < 5).
    let four : 4 ≡ width = omega (arith, wide.least) in
    subst (λ (c : ℕ). Written c i links state flows off d l → Written c (i + 1) links state flows off d (put_node c l i s f x)) four
    (more_four i links state flows off d l s f x h e q) w)
    (le_or_lt 5 width))

pub written_ended : (width i links : ℕ) (state : ℕ → NodeState) (flows : ℕ → Flows) (off : ℕ → ℕ) (d l : List ℕ) → Written width i links state flows off d l → links + 1 ≤ i
    → l ≡ row_of width links state flows off
unfolding row_of
written_ended width i links state flows off d l w h =
    placed_ended width i (links + 1) (λ j. node_word (state j) (flows j) (off j)) d l w h
    ∙ ap (λ (n : ℕ). row_words width n (λ j. node_word (state j) (flows j) (off j))) (add-one links)

-- a state that is written, two words a node: s is that of node i as calls gave it
pub state_more : (i links : ℕ) (state : ℕ → NodeState) (d l l' : List ℕ) (s : NodeState) → Written 2 i links state (λ j. no_flow) (λ j. 0) d l → i < links + 1 → s ≡ state i
    → l' ≡ set (set l (i * 2) s.vehicles) (i * 2 + 1) s.queue → Written 2 (i + 1) links state (λ j. no_flow) (λ j. 0) d l'
unfolding node_word
state_more i links state d l l' s w h e p =
    subst (λ (y : List ℕ). Written 2 (i + 1) links state (λ j. no_flow) (λ j. 0) d y) (sym p)
    (placed_two i (links + 1) (λ j. node_word (state j) no_flow 0) d l (i * 2) s.vehicles s.queue w h refl
    (ap (λ (y : NodeState). y.vehicles) e) (ap (λ (y : NodeState). y.queue) e))

-- node i, before it is written, is as it was
pub state_waits : (i links : ℕ) (state : ℕ → NodeState) (d l : List ℕ) → Written 2 i links state (λ j. no_flow) (λ j. 0) d l → state_in 2 l i ≡ state_in 2 d i
unfolding state_in
state_waits i links state d l w = state_eq _ _ (w.is.rest (i * 2 + 0) (omega arith)) (w.is.rest (i * 2 + 1) (omega arith))

-- ---- a row read again

pub row_length : (width links : ℕ) (state : ℕ → NodeState) (flows : ℕ → Flows) (off : ℕ → ℕ) → RowFits width (row_of width links state flows off) links
unfolding row_of
row_length width links state flows off = row_words_length width (suc links) (λ j. node_word (state j) (flows j) (off j))

-- the state of node i, in a row of a state
pub rest_state : (links : ℕ) (state : ℕ → NodeState) (i : ℕ) → i ≤ links → state_in 2 (rest_row 2 links state) i ≡ state i
unfolding row_of state_in node_word
rest_state links state i h =
    let word : (q : ℕ) → q < 2 → get_or (row_words 2 (suc links) (λ j. node_word (state j) no_flow 0)) (i * 2 + q) 0 ≡ node_word (state i) no_flow 0 q =
    λ q b. row_words_at 2 (suc links) (λ j. node_word (state j) no_flow 0) i q 0 (omega arith) b in
    state_eq _ _ (word 0 (lit< tt)) (word 1 (lit< tt))

-- rows with the same states, flows and off-ramp flows at nodes 0..N are one list
pub row_same : (width links : ℕ) (state after : ℕ → NodeState) (flows other : ℕ → Flows) (off off' : ℕ → ℕ) → ((i : ℕ) → i ≤ links → state i ≡ after i)
    → ((i : ℕ) → i ≤ links → flows i ≡ other i) → ((i : ℕ) → i ≤ links → off i ≡ off' i) → row_of width links state flows off ≡ row_of width links after other off'
unfolding row_of
row_same width links state after flows other off off' s f x =
    row_words_same width (suc links) _ _
    (λ i q h b z. node_word (s i (omega arith) z) (f i (omega arith) z) (x i (omega arith) z) q)

-- ---- the sum of a row, as its loop has it

pub row_summed : (width i links : ℕ) (row : List ℕ) (total : ℕ) → Summed i (links + 1) 8589934590 (λ j. (state_in width row j).vehicles + (state_in width row j).queue) total
    → links + 1 ≤ i → links ≤ 64 → (total ≡ row_cost width links row) × (total ≤ 558345748350)
unfolding row_cost
row_summed width i links row total a h few = (
  summed_ended i (links + 1) 8589934590 _ total a h ∙ ap (λ (n : ℕ). state_cost n (state_in width row)) (add-one links),
  omega (arith, a.low, a.bound),
)
