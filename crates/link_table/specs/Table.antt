-- The links and ramps of a corridor, eight words a node: F, V, W, J, dropped capacity, drop density, C, L. Both kinds of corridor have one table.
use Rattle.std.specs.Prelude.{ℕ, suc, ◌+◌, ◌*◌, List, [], ◌∷◌, get_or, set}
use Rattle.tables.specs.Grid.{row_words}
use Rattle.road.specs.Corridor.{Link, Ramp, Road}
use Rattle.road.specs.Step.{Junction}
use Rattle.lists.specs.Words.{node_at}
use Rattle.lists.specs.Rows.{state_in}

-- the words of a node
abbrev pub link_words : Link → Ramp → List ℕ
link_words link ramp =
    link.capacity ∷ link.full_speed ∷ link.wave_speed ∷ link.jam ∷ link.dropped_capacity ∷ link.drop_density ∷ ramp.capacity ∷ ramp.queue_limit ∷ []

unfoldable pub table_of : List ℕ → ℕ → List ℕ
table_of corridor links = row_words 8 (suc links) (λ i q. get_or (link_words (node_at corridor i).link (node_at corridor i).ramp) q 0)

-- a table with the words of node i stored anew
unfoldable pub put_link : List ℕ → ℕ → Link → Ramp → List ℕ
put_link table i link ramp =
    let first : List ℕ = set (set (set (set table (i * 8) link.capacity) (i * 8 + 1) link.full_speed) (i * 8 + 2) link.wave_speed) (i * 8 + 3) link.jam in
    set (set (set (set first (i * 8 + 4) link.dropped_capacity) (i * 8 + 5) link.drop_density) (i * 8 + 6) ramp.capacity) (i * 8 + 7) ramp.queue_limit

-- link i and ramp i, as a table has them
unfoldable pub link_in : List ℕ → ℕ → Link
link_in table i =
    record {
      capacity = get_or table (i * 8 + 0) 0;
      full_speed = get_or table (i * 8 + 1) 0;
      wave_speed = get_or table (i * 8 + 2) 0;
      jam = get_or table (i * 8 + 3) 0;
      dropped_capacity = get_or table (i * 8 + 4) 0;
      drop_density = get_or table (i * 8 + 5) 0;
    }

unfoldable pub ramp_in : List ℕ → ℕ → Ramp
ramp_in table i = record { capacity = get_or table (i * 8 + 6) 0; queue_limit = get_or table (i * 8 + 7) 0 }

-- a road with these links and ramps, whose demands are those of one row at each step; a step asks for no identifier and for no start
unfoldable pub table_road : List ℕ → ℕ → List ℕ → ℕ → Road
table_road table links row downstream =
    record {
      links = links;
      steps = 1;
      node = λ i. record { identifier = 0; link = link_in table i; ramp = ramp_in table i; start = record { vehicles = 0; queue = 0 } };
      arrivals = λ k i. get_or row (i * 2 + 0) 0;
      split = λ k i. get_or row (i * 2 + 1) 0;
      downstream = λ k. downstream;
    }

-- what rules 1 to 5 ask of node i in the state that a row gives, `width` words a node, where its supply is told
abbrev pub junction_in : ℕ → List ℕ → List ℕ → List ℕ → ℕ → ℕ → Junction
junction_in width table demand row supply i =
    record { link = link_in table i; ramp = ramp_in table i; state = state_in width row i; split = get_or demand (i * 2 + 1) 0; supply = supply }
