-- An older kind is the newer one completed: demands of kind 2, and those of kind 5 with 65,536 for every step (request 01); a corridor of kind 1,
-- and that of kind 10 with F and J for each node's drop (request 07); a record of kind 3, and that of kind 7 with the right exits (request 04).
-- They have the same answers and the same outputs in every call that computes with them. The calls on a slice of nodes are those on lists at the
-- nodes' words.
use Rattle.std.specs.Prelude.{ℕ, suc, ◌+◌, ◌*◌, ◌≤◌, ◌<◌, cond, List, [], ◌∷◌, ◌++◌, ◌≡◌, ltb, eqb, length, get_or, replicate}
use Rattle.tables.specs.Grid.{row_words, grid, place}
use Rattle.road.specs.Corridor.{Road, nodes}
use Rattle.road.specs.Step.{exit}
use Rattle.lists.specs.Words.{links_of, steps_of, road_of, corridor_length, demands_length, free, trace_length, record_length}
use Rattle.simulate.specs.Simulate.{simulate_answer, record_left}
use Rattle.payload.specs.Word.{Words}
use Rattle.payload.specs.File.{file_of}
use Rattle.file_rows.specs.Words.{corridor_in, demands_in}
use Rattle.files.specs.Files.{check_files, convert_files, plan_written}
use Rattle.convert.specs.Convert.{check_answer, convert_answer, plan_left, normal_answer, work_left, normal_left}
use Rattle.search.specs.Search.{search_answer, search_left}

-- demands of K steps with the flow that may leave link N, 65,536 in each
unfoldable pub completed : ℕ → List ℕ → List ℕ
completed steps demands = demands ++ replicate steps free

-- word q of node i in a corridor of kind 1, and then its F and its J
unfoldable pub completed_word : List ℕ → ℕ → ℕ → ℕ
completed_word corridor i q = get_or corridor (1 + (i * 9 + cond (ltb q 9) q (cond (eqb q 9) 1 4))) 0

-- a corridor of N links with dropped capacity F and drop density J at each node
unfoldable pub completed_corridor : ℕ → List ℕ → List ℕ
completed_corridor links corridor = links_of corridor ∷ row_words 11 (suc links) (completed_word corridor)

-- the flow that leaves by the off-ramp of node i in step k of a record of kind 3, x × b / 65,536 of its f, and in state K none
unfoldable pub completed_exit : Road → List ℕ → ℕ → ℕ → ℕ
completed_exit road words k i = cond (ltb k road.steps) (exit (get_or words (place 4 (nodes road) k i 2) 0) (road.split k i)) 0

-- word q of node i in state k of that record, and then this flow
unfoldable pub completed_record_word : Road → List ℕ → ℕ → ℕ → ℕ → ℕ
completed_record_word road words k i q = cond (ltb q 4) (get_or words (place 4 (nodes road) k i q) 0) (completed_exit road words k i)

-- the record with these exits, and its own two words of cost
unfoldable pub completed_record : Road → List ℕ → List ℕ
completed_record road words =
    grid 5 (nodes road) (suc road.steps) (completed_record_word road words)
    ++ (get_or words (trace_length 4 road.links road.steps) 0 ∷ get_or words (trace_length 4 road.links road.steps + 1) 0 ∷ [])

-- the calls on lists; `room`, and `work` of a normal form, are the lengths of lent lists
pub record SameOnLists (corridor demands corridor' demands' : List ℕ) : Type 0 where
  pub simulate_answers : (plan : List ℕ) (room : ℕ) → simulate_answer corridor demands plan room ≡ simulate_answer corridor' demands' plan room
  pub simulate_writes : (plan lent : List ℕ) → record_left corridor demands plan lent ≡ record_left corridor' demands' plan lent
  pub check_answers : (words : List ℕ) → check_answer corridor demands words ≡ check_answer corridor' demands' words
  pub convert_answers : (words : List ℕ) (room : ℕ) → convert_answer corridor demands words room ≡ convert_answer corridor' demands' words room
  pub convert_writes : (words lent : List ℕ) → plan_left corridor demands words lent ≡ plan_left corridor' demands' words lent
  pub search_answers : (words : List ℕ) (step node room : ℕ) → search_answer corridor demands words step node room ≡ search_answer corridor' demands' words step node room
  pub search_writes : (words : List ℕ) (step node : ℕ) (lent : List ℕ) → search_left corridor demands words step node lent ≡ search_left corridor' demands' words step node lent
  pub normal_answers : (plan : List ℕ) (work room : ℕ) → normal_answer corridor demands plan work room ≡ normal_answer corridor' demands' plan work room
  pub normal_works : (plan lent : List ℕ) (room : ℕ) → work_left corridor demands plan lent room ≡ work_left corridor' demands' plan lent room
  pub normal_writes : (plan : List ℕ) (work : ℕ) (lent : List ℕ) → normal_left corridor demands plan work lent ≡ normal_left corridor' demands' plan work lent

-- those that take a record
pub record SameRecords (corridor demands words words' : List ℕ) : Type 0 where
  pub check_answers : check_answer corridor demands words ≡ check_answer corridor demands words'
  pub convert_answers : (room : ℕ) → convert_answer corridor demands words room ≡ convert_answer corridor demands words' room
  pub convert_writes : (lent : List ℕ) → plan_left corridor demands words lent ≡ plan_left corridor demands words' lent
  pub search_answers : (step node room : ℕ) → search_answer corridor demands words step node room ≡ search_answer corridor demands words' step node room
  pub search_writes : (step node : ℕ) (lent : List ℕ) → search_left corridor demands words step node lent ≡ search_left corridor demands words' step node lent

-- the calls on files
pub record SameOnFiles (n k : ℕ) (corridor demands recorded corridor' demands' recorded' : List ℕ) : Type 0 where
  pub check_answers : check_files n k corridor demands recorded ≡ check_files n k corridor' demands' recorded'
  pub convert_answers : (room : ℕ) → convert_files n k corridor demands recorded room ≡ convert_files n k corridor' demands' recorded' room
  pub convert_writes : (lent : List ℕ) → plan_written n k corridor demands recorded lent ≡ plan_written n k corridor' demands' recorded' lent

-- whatever the words of the list that is completed and of all others; on files, for every N and K
pub record Completes : Type 0 where
  pub demands_on_lists : (corridor demands : List ℕ) → length demands ≡ demands_length (links_of corridor) (steps_of demands)
      → SameOnLists corridor demands corridor (completed (steps_of demands) demands)
  pub demands_on_files : (n k : ℕ) (corridor demands recorded : List ℕ) → Words demands → length demands ≡ demands_length n k
      → SameOnFiles n k corridor (file_of 2 demands) recorded corridor (file_of 5 (completed k demands)) recorded
  pub corridor_on_lists : (corridor demands : List ℕ) → length corridor ≡ corridor_length 9 (links_of corridor)
      → SameOnLists corridor demands (completed_corridor (links_of corridor) corridor) demands
  pub corridor_on_files : (n k : ℕ) (corridor demands recorded : List ℕ) → Words corridor → length corridor ≡ corridor_length 9 n
      → SameOnFiles n k (file_of 1 corridor) demands recorded (file_of 10 (completed_corridor n corridor)) demands recorded
  pub record_on_lists : (corridor demands words : List ℕ) → length words ≡ record_length 4 (links_of corridor) (steps_of demands)
      → SameRecords corridor demands words (completed_record (road_of corridor demands) words)
  -- a record's file that can be made has words of 32 bits, and where no split is above 65,536 the right exits are such
  pub record_on_files : (n k : ℕ) (corridor demands words : List ℕ) → Words words → Words (completed_record (road_of (corridor_in n corridor) (demands_in n k demands)) words)
      → length words ≡ record_length 4 n k
      → SameOnFiles n k corridor demands (file_of 3 words) corridor demands (file_of 7 (completed_record (road_of (corridor_in n corridor) (demands_in n k demands)) words))
  pub right_exits_fit : (road : Road) (words : List ℕ) → Words words → ((k i : ℕ) → k < road.steps → i ≤ road.links → road.split k i ≤ 65536)
      → Words (completed_record road words)
