-- Request 02 over lists of words: what the search's call refuses, what it finds at a node and step of an accepted record, and how many rates it tries.
use Rattle.std.specs.Prelude.{ℕ, ◌+◌, ◌≤◌, ◌<◌, List, [], ◌∷◌, ◌≡◌, ◌↔◌, ◌⊎◌, ◌≢◌, length, Some, None}
use Rattle.tables.specs.Answer.{Accepted, Refused}
use Rattle.tables.specs.Halving.{ceil_log}
use Rattle.settings.specs.declared.Search.{Search}
use Rattle.settings.specs.Rate.{search}
use Rattle.settings.specs.Share.{Gives, Finds}
use Rattle.lists.specs.Words.{links_of, steps_of, road_of}
use Rattle.simulate.specs.B.{corridor, demands, record_with, record_1}
use Rattle.convert.specs.Convert.{converted, check_answer}
use Rattle.search.specs.Search.{search_words, searched, search_answer, search_left}
use Rattle.demands.specs.Demand3.{recorded, recorded_flows, rate_at, limit_at}

-- whatever the lists; `room` is the length of the lent list
pub record SearchCalls (corridor demands words : List ℕ) (step node : ℕ) : Type 0 where
  -- "A step not below K, a node above N or a wrong length of out is refusal 1"
  pub refuses_by_1 : (room : ℕ) → (steps_of demands ≤ step) ⊎ (links_of corridor < node) ⊎ (room ≢ 3) → search_answer corridor demands words step node room ≡ Refused 1 0 0
  -- "otherwise it refuses as the checker does."
  pub else_as_checker : step < steps_of demands → node ≤ links_of corridor → search_answer corridor demands words step node 3 ≡ check_answer corridor demands words

-- the search at node i in step k of a record
abbrev pub search_of : List ℕ → List ℕ → List ℕ → ℕ → ℕ → Search
search_of corridor demands words k i = search (recorded corridor demands words k i) (recorded_flows corridor demands words k i)

-- C of node i
abbrev pub capacity_at : List ℕ → List ℕ → ℕ → ℕ
capacity_at corridor demands i = ((road_of corridor demands).node i).ramp.capacity

-- of a record that is accepted, at a node and step of it
pub record SearchedAt (corridor demands words : List ℕ) (k i : ℕ) : Type 0 where
  -- what the call leaves in the three words that it is lent
  pub leaves : (lent : List ℕ) → length lent ≡ 3 → search_left corridor demands words k i lent ≡ search_words (search_of corridor demands words k i)
  -- "The rate found, and the finding that there is none, are those of document 01."
  pub finds : Finds (recorded corridor demands words k i) (recorded_flows corridor demands words k i) (search_of corridor demands words k i).found
  -- so the converter's plan posts full speed at just that rate, and a lower limit just where there is none
  pub full_where_found : (rate : ℕ)
      → ((search_of corridor demands words k i).found ≡ Some (record { 0 = rate }))
      ↔ ((limit_at corridor demands (converted corridor demands words) k i ≡ ((road_of corridor demands).node i).link.full_speed)
      × (rate_at corridor demands (converted corridor demands words) k i ≡ rate))
  pub held_where_none : ((search_of corridor demands words k i).found ≡ None)
      ↔ (limit_at corridor demands (converted corridor demands words) k i < ((road_of corridor demands).node i).link.full_speed)
  -- "It returns the number of tries, at most 18": 1 + log2 (C + 1), rounded up; 18 only at C = 65,536, and 1 where C is 0
  pub tries_at_most_18 : (search_of corridor demands words k i).tries ≤ 18
  pub tries_at_most_log : (search_of corridor demands words k i).tries ≤ 1 + ceil_log (capacity_at corridor demands i + 1)
  pub eighteen_only_at_the_greatest : (search_of corridor demands words k i).tries ≡ 18 → capacity_at corridor demands i ≡ 65536
  pub one_without_a_choice : capacity_at corridor demands i ≡ 0 → (search_of corridor demands words k i).tries ≡ 1
  -- so many are tried where rate 0 gives the flows
  pub log_reached : Gives (recorded corridor demands words k i) (recorded_flows corridor demands words k i) 0
      → (search_of corridor demands words k i).tries ≡ 1 + ceil_log (capacity_at corridor demands i + 1)

-- ---- worked: B of document 01

-- B with this C at node 1, and its record where node 1 has rate 0
abbrev pub corridor_with : ℕ → List ℕ
corridor_with capacity =
    2
    ∷ 10 ∷ 0 ∷ 0 ∷ 0 ∷ 0 ∷ 100 ∷ 1000 ∷ 0 ∷ 0
    ∷ 20 ∷ 100 ∷ 32768 ∷ 32768 ∷ 400 ∷ capacity ∷ 200 ∷ 200 ∷ 50
    ∷ 30 ∷ 100 ∷ 32768 ∷ 32768 ∷ 400 ∷ 0 ∷ 0 ∷ 200 ∷ 0
    ∷ []

abbrev pub record_0 : List ℕ
record_0 = record_with 100 0 100 175 30 60 365

-- the call accepts, and leaves these words
pub record Leaves (corridor words : List ℕ) (step node tries found rate : ℕ) : Type 0 where
  pub accepted : search_answer corridor demands words step node 3 ≡ Accepted
  pub leaves : searched corridor demands words step node ≡ tries ∷ found ∷ rate ∷ []

pub record SearchCases : Type 0 where
  -- case 1, node 1: of 0..60 it tries 30, 45, 53, 49, 51, 50, and 50 once more, which is the one left
  pub case_1 : Leaves corridor record_1 0 1 7 1 50
  -- case 3, node 1, held: 30, 45, 53, 57, 59 and 60
  pub case_3 : Leaves corridor (record_with 60 50 140 195 30 10 375) 0 1 6 0 0
  -- case 1, node 0, C = 100: 50, 25, 12, 6, 3, 1, 0 and 0; and node 2, where the only rate is 0
  pub entry : Leaves corridor record_1 0 0 8 1 0
  pub end : Leaves corridor record_1 0 2 1 1 0
  -- rate 0 at node 1: 1 + log2 (C + 1), rounded up, tries
  pub capacity_0 : Leaves (corridor_with 0) record_0 0 1 1 1 0
  pub capacity_1 : Leaves (corridor_with 1) record_0 0 1 2 1 0
  pub capacity_2 : Leaves (corridor_with 2) record_0 0 1 3 1 0
  pub capacity_65535 : Leaves (corridor_with 65535) record_0 0 1 17 1 0
  pub capacity_65536 : Leaves (corridor_with 65536) record_0 0 1 18 1 0
  -- case 5's record is refused as the checker does, and a step of K, a node above N or a fourth word by 1, before that
  pub case_5 : search_answer corridor demands (record_with 100 26 100 201 30 34 365) 0 1 3 ≡ Refused 9 0 1
  pub late : search_answer corridor demands (record_with 100 26 100 201 30 34 365) 1 1 3 ≡ Refused 1 0 0
  pub past : search_answer corridor demands (record_with 100 26 100 201 30 34 365) 0 3 3 ≡ Refused 1 0 0
  pub long : search_answer corridor demands (record_with 100 26 100 201 30 34 365) 0 1 4 ≡ Refused 1 0 0
