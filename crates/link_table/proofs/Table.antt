-- Laws of the table: what it says of a node is what the corridor says, and the invariant of the loop that fills it.
use Prim.Native.Nat.{ℕ, suc, ◌+◌, ◌*◌, ◌≤◌, ◌<◌}
use mathlib.Core.List.{List, [], ◌∷◌}
use mathlib.Core.Logic.{⊎_elim}
use mathlib.Core.Path.{◌≡◌, refl, sym, ap, subst, ◌∙◌}
use native.Mathlib.Numerals.{add-one}
use native.Mathlib.Omega.{arith}
use lib.Dec.{lit<}
use lib.ListN.{length, get_or}
use Rattle.tables.specs.Grid.{row_words}
use Rattle.tables.specs.Tabulate.{tabulate}
use Rattle.tables.proofs.Numbers.{row_fits_lem, le_or_lt}
use Rattle.tables.proofs.Grid.{row_words_length, row_words_at, Placed, placed_begun, placed_stored, placed_ended}
use Rattle.road.specs.Corridor.{Link, Ramp, NodeState, Road}
use Rattle.road.specs.Step.{receiving}
use Rattle.road.specs.Run.{supply, junction}
use Rattle.road.proofs.Runs.{supply_inside, supply_last}
use Rattle.lists.specs.Words.{links_of, node_at}
use Rattle.lists.specs.Rows.{state_in, step_road}
use Rattle.lists.specs.Fits.{RowFits, NodeIn}
use Rattle.link_table.specs.Table.{link_words, table_of, put_link, link_in, ramp_in, table_road}

abbrev table_word : List ℕ → ℕ → ℕ → ℕ
table_word corridor i q = get_or (link_words (node_at corridor i).link (node_at corridor i).ramp) q 0

-- ---- a table read again

module _ (corridor : List ℕ) (links : ℕ) (table : List ℕ) (e : table ≡ table_of corridor links) where
  pub table_fits_lem : RowFits 8 table links
  unfolding table_of
  table_fits_lem = ap length e ∙ row_words_length 8 (suc links) (table_word corridor)

  word : (i : ℕ) → i ≤ links → (q : ℕ) → q < 8 → get_or table (i * 8 + q) 0 ≡ table_word corridor i q
  unfolding table_of
  word i h q b = ap (λ (x : List ℕ). get_or x (i * 8 + q) 0) e ∙ row_words_at 8 (suc links) (table_word corridor) i q 0 (omega arith) b

  pub link_told : (i : ℕ) → i ≤ links → link_in table i ≡ (node_at corridor i).link
  unfolding link_in
  link_told i h =
      λ z. record {
        capacity = word i h 0 (lit< tt) z;
        full_speed = word i h 1 (lit< tt) z;
        wave_speed = word i h 2 (lit< tt) z;
        jam = word i h 3 (lit< tt) z;
        dropped_capacity = word i h 4 (lit< tt) z;
        drop_density = word i h 5 (lit< tt) z;
      }

  pub ramp_told : (i : ℕ) → i ≤ links → ramp_in table i ≡ (node_at corridor i).ramp
  unfolding ramp_in
  ramp_told i h = λ z. record { capacity = word i h 6 (lit< tt) z; queue_limit = word i h 7 (lit< tt) z }

  module _ (row : List ℕ) (downstream : ℕ) (state : ℕ → NodeState) (n : links ≡ links_of corridor) (i : ℕ) (h : i ≤ links) where
    -- what the table says of a supply is what the corridor says
    supply_told : supply (table_road table links row downstream) 0 state i ≡ supply (step_road corridor row downstream) 0 state i
    unfolding table_road step_road
    supply_told =
        let ours : Road = table_road table links row downstream in
        let theirs : Road = step_road corridor row downstream in
        ⊎_elim
        (λ (g : links ≤ i).
        let a : i ≡ links = omega arith in
        ap (supply ours 0 state) a ∙ supply_last ours 0 state ∙ sym (ap (supply theirs 0 state) (a ∙ n) ∙ supply_last theirs 0 state))
        (λ (g : i < links).
        supply_inside ours 0 state i g
        ∙ ap (λ (x : Link). receiving x (state (suc i)).vehicles) (link_told (suc i) (omega arith))
        ∙ sym (supply_inside theirs 0 state i (omega arith)))
        (le_or_lt links i)

    pub junction_told : junction (table_road table links row downstream) 0 state i ≡ junction (step_road corridor row downstream) 0 state i
    unfolding junction table_road step_road
    junction_told =
        λ z. record {
          link = link_told i h z;
          ramp = ramp_told i h z;
          state = state i;
          split = get_or row (i * 2 + 1) 0;
          supply = supply_told z;
        }

-- ---- the supply of a node as the code has it: below N the receiving of the next link, at N what may pass beyond it

module _ (width : ℕ) (table row demand : List ℕ) (downstream count i : ℕ) where
  pub supply_next : (x : ℕ) → i < count → x ≡ receiving (link_in table (i + 1)) (state_in width row (i + 1)).vehicles
      → x ≡ supply (table_road table count demand downstream) 0 (state_in width row) i
  unfolding table_road
  supply_next x h e =
      e
      ∙ ap (λ (j : ℕ). receiving (link_in table j) (state_in width row j).vehicles) (add-one i)
      ∙ sym (supply_inside (table_road table count demand downstream) 0 (state_in width row) i h)

  pub supply_ends : i ≡ count → downstream ≡ supply (table_road table count demand downstream) 0 (state_in width row) i
  unfolding table_road
  supply_ends e =
      sym (supply_last (table_road table count demand downstream) 0 (state_in width row)) ∙ ap (supply (table_road table count demand downstream) 0 (state_in width row)) (sym e)

-- ---- as a loop's invariant: the first i nodes of the table are filled

abbrev pub Tabled : ℕ → ℕ → List ℕ → List ℕ → List ℕ → Type 0
Tabled i links corridor d l = Placed 8 i (links + 1) (table_word corridor) d l

pub tabled_begun : (links : ℕ) (corridor d : List ℕ) → RowFits 8 d links → Tabled 0 links corridor d d
tabled_begun links corridor d e = placed_begun 8 (links + 1) (table_word corridor) d (omega arith)

-- link and ramp are those of node i as calls gave them
pub tabled_more : (i links : ℕ) (corridor d l l' : List ℕ) (link : Link) (ramp : Ramp) → Tabled i links corridor d l → i < links + 1 → link ≡ (node_at corridor i).link → ramp ≡ (node_at corridor i).ramp
    → l' ≡ put_link l i link ramp → Tabled (i + 1) links corridor d l'
unfolding tabulate put_link
tabled_more i links corridor d l l' link ramp p h a b e =
    subst (λ (x : List ℕ). Tabled (i + 1) links corridor d x) (sym e)
    (placed_stored 8 i (links + 1) (table_word corridor) d l (i * 8) link.capacity
    (link.full_speed ∷ link.wave_speed ∷ link.jam ∷ link.dropped_capacity ∷ link.drop_density ∷ ramp.capacity ∷ ramp.queue_limit ∷ [])
    p h refl (λ z. link_words (a z) (b z)))

-- the table that is being filled has the node's words
pub tabled_room : (i links : ℕ) (corridor d l : List ℕ) → Tabled i links corridor d l → i < links + 1 → NodeIn 8 l i
tabled_room i links corridor d l p h = omega (arith, row_fits_lem i (links + 1) 8 h, p.room)

pub tabled_ended : (i links : ℕ) (corridor d l : List ℕ) → Tabled i links corridor d l → links + 1 ≤ i → l ≡ table_of corridor links
unfolding table_of
tabled_ended i links corridor d l p h =
    placed_ended 8 i (links + 1) (table_word corridor) d l p h ∙ ap (λ (n : ℕ). row_words 8 n (table_word corridor)) (add-one links)
