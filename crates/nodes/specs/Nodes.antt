-- The corridor's word list that a list of nodes lays out, and the words that the code makes of it.
use Rattle.std.specs.Prelude.{ℕ, ◌+◌, ◌-◌, ◌*◌, cond, List, [], ◌∷◌, length, get_or}
use Rattle.tables.specs.Grid.{row_words}
use Rattle.road.specs.Corridor as Road
use Rattle.faults.specs.Lists.{within}
use Rattle.nodes.specs.declared.Node.{Node}

-- a node's words in the order of a corridor of kind 10: identifier, F, V, W, J, C, L, starting n, starting l, dropped capacity, drop density
unfoldable pub node_words : Node → List ℕ
node_words node =
    node.identifier
    ∷ node.capacity
    ∷ node.full_speed
    ∷ node.wave_speed
    ∷ node.jam
    ∷ node.ramp_capacity
    ∷ node.queue_limit
    ∷ node.start_vehicles
    ∷ node.start_queue
    ∷ node.dropped_capacity
    ∷ node.drop_density
    ∷ []

-- what stands for a node past the end
abbrev pub no_node : Node
no_node =
    record {
      identifier = 0;
      capacity = 0;
      full_speed = 0;
      wave_speed = 0;
      jam = 0;
      ramp_capacity = 0;
      queue_limit = 0;
      start_vehicles = 0;
      start_queue = 0;
      dropped_capacity = 0;
      drop_density = 0;
    }

abbrev pub node_in : List Node → ℕ → Node
node_in nodes i = get_or nodes i no_node

-- N, which is the number of nodes less one, then the eleven words of each node; a list with no node says N = 0, which no corridor has
unfoldable pub corridor_words : List Node → List ℕ
corridor_words nodes = (length nodes - 1) ∷ row_words 11 (length nodes) (λ i q. get_or (node_words (node_in nodes i)) q 0)

-- the same node in the terms of the model: what the word lists' reader makes of its eleven words
unfoldable pub node_of : Node → Road.Node
node_of node =
    record {
      identifier = node.identifier;
      link =
          record {
            capacity = node.capacity;
            full_speed = node.full_speed;
            wave_speed = node.wave_speed;
            jam = node.jam;
            dropped_capacity = node.dropped_capacity;
            drop_density = node.drop_density;
          };
      ramp = record { capacity = node.ramp_capacity; queue_limit = node.queue_limit };
      start = record { vehicles = node.start_vehicles; queue = node.start_queue };
    }

-- ---- as the code has them

-- the words that the list versions are given: none where the number of nodes is no corridor's, and so refusal 1
unfoldable pub words_taken : List Node → List ℕ
words_taken nodes = cond (within 2 65 (length nodes)) (corridor_words nodes) []
