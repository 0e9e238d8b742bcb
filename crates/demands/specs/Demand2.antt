-- Demand 2 in its own words: the simulator's record, and block files.
use Rattle.std.specs.Prelude.{ℕ, ◌≤◌, ◌<◌, ◌+◌, ◌-◌, ◌*◌, ◌%◌, ◌/◌, ◌≢◌, List, ◌≡◌, length, get_or}
use Rattle.tables.specs.Answer.{Answer}
use Rattle.tables.specs.Answer.{Accepted, Refused}
use Rattle.tables.specs.Grid.{place}
use Rattle.road.specs.Corridor.{Road, Plan, nodes}
use Rattle.road.specs.Step.{exit, through}
use Rattle.road.specs.Run.{plan_flows, state_at, no_flow, run, cost}
use Rattle.lists.specs.Words.{road_of, plan_of, Width, trace_of, trace_length, record_length}
use Rattle.simulate.specs.Simulate.{simulated}
use Rattle.payload.specs.Word.{Bytes, Words}
use Rattle.payload.specs.File.{blocks_for, OneChange}
use Rattle.block.specs.declared.Kind.{Kind}
use Rattle.block.specs.Kinds.{list_length, file_kind, list_kind}
use Rattle.block.specs.Calls.{read_answer, words_read, write_answer, file_written}

-- the word of a record that says what leaves by the off-ramp of node i in state k: kind 7 has it
abbrev pub exit_word : Road → List ℕ → ℕ → ℕ → ℕ
exit_word road words k i = get_or words (place 5 (nodes road) k i 4) 0

-- the mainline flow of node i in step k
abbrev pub main_flow : Road → Plan → ℕ → ℕ → ℕ
main_flow road plan k i = (plan_flows road plan k (state_at road plan k) i).main

-- "the simulator's record equals the Link-Node Cell Transmission Model as document 01 rounds it to whole units:"
-- `width` is how many words a node has in it, 4 in kind 3 and 5 in kind 7
pub record SimulatedRecord (width : ℕ) (corridor demands words : List ℕ) (road : Road) (plan : Plan) : Type 0 where
  pub length_of_record : length (simulated width corridor demands words) ≡ record_length width road.links road.steps
  -- "each density, queue,"
  pub states : (k i : ℕ) → k ≤ road.steps → i ≤ road.links → (trace_of width road (simulated width corridor demands words)).state k i ≡ state_at road plan k i
  -- "mainline flow and ramp flow,"
  pub flows : (k i : ℕ) → k < road.steps → i ≤ road.links → (trace_of width road (simulated width corridor demands words)).flows k i ≡ plan_flows road plan k (state_at road plan k) i
  pub last_flows : (i : ℕ) → i ≤ road.links → (trace_of width road (simulated width corridor demands words)).flows road.steps i ≡ no_flow
  -- and, of request 04, the off-ramp flow: x × b / 65,536 of its f,
  pub exits : width ≡ 5 → (k i : ℕ) → k < road.steps → i ≤ road.links → exit_word road (simulated width corridor demands words) k i ≡ exit (main_flow road plan k i) (road.split k i)
  -- which for a split b of at most 65,536 is f less its through part,
  pub exits_are_the_rest : width ≡ 5 → (k i : ℕ) → k < road.steps → i ≤ road.links → road.split k i ≤ 65536
      → exit_word road (simulated width corridor demands words) k i ≡ main_flow road plan k i - through (main_flow road plan k i) (road.split k i)
  pub last_exits : width ≡ 5 → (i : ℕ) → i ≤ road.links → exit_word road (simulated width corridor demands words) road.steps i ≡ 0
  -- "and the total cost."
  pub cost_low : get_or (simulated width corridor demands words) (trace_length width road.links road.steps) 0 ≡ cost road (run road plan) % 4294967296
  pub cost_high : get_or (simulated width corridor demands words) (trace_length width road.links road.steps + 1) 0 ≡ cost road (run road plan) / 4294967296

-- ---- the reader and the writer of a place, which its oldest kind names: in a list the length chooses the kind, in a file its word 0

abbrev pub writes : Kind → ℕ → ℕ → List ℕ → ℕ → Answer
writes place n k words room = write_answer (list_kind place n k (length words)) n k words room

abbrev pub file_made : Kind → ℕ → ℕ → List ℕ → List ℕ → List ℕ
file_made place n k words lent = file_written (list_kind place n k (length words)) n k words lent

abbrev pub reads : Kind → ℕ → ℕ → List ℕ → ℕ → Answer
reads place n k file room = read_answer (file_kind place file) n k file room

abbrev pub words_made : Kind → ℕ → ℕ → List ℕ → List ℕ → List ℕ
words_made place n k file lent = words_read (file_kind place file) n k file lent

-- "Block files follow document 01:" for each place, told N and K
pub record BlockFiles (place : Kind) (n k : ℕ) : Type 0 where
  -- "words written and then read come back the same,"
  pub words_come_back : (words file lent : List ℕ) → Words words → writes place n k words (length file) ≡ Accepted → length lent ≡ length words
      → (reads place n k (file_made place n k words file) (length lent) ≡ Accepted) × (words_made place n k (file_made place n k words file) lent ≡ words)
  -- "and an accepted file read and rewritten has the same bytes."
  pub bytes_come_back : (file words lent : List ℕ) → Bytes file → reads place n k file (length words) ≡ Accepted → length lent ≡ length file
      → (writes place n k (words_made place n k file words) (length lent) ≡ Accepted) × (file_made place n k (words_made place n k file words) lent ≡ file)
  -- "Any change to just one of words 0..126 is seen": by 15 at its block,
  pub a_change_is_seen : (file other lent : List ℕ) (t i : ℕ) → Bytes file → Bytes other → i < 127 → OneChange file other t i
      → reads place n k file (length lent) ≡ Accepted → t < blocks_for (list_length (file_kind place file) n k) → file_kind place other ≡ file_kind place file
      → reads place n k other (length lent) ≡ Refused 15 t 0
  -- and where it makes the file one of another kind, by 1, since the lent list has the length of the first; only word 0 of the file can
  pub another_kind_is_seen : (file other lent : List ℕ) → reads place n k file (length lent) ≡ Accepted → file_kind place other ≢ file_kind place file
      → reads place n k other (length lent) ≡ Refused 1 0 0
  pub only_word_0_chooses : (file other : List ℕ) (t i : ℕ) → OneChange file other t i → t * 128 + i ≢ 0 → file_kind place other ≡ file_kind place file

pub record Demand2 : Type 0 where
  -- for every corridor, demand series and plan, whatever their words, and both kinds of record
  pub simulated_record : (width : ℕ) → Width width → (corridor demands plan : List ℕ)
      → SimulatedRecord width corridor demands plan (road_of corridor demands) (plan_of (road_of corridor demands) plan)
  pub block_files : (place : Kind) (n k : ℕ) → BlockFiles place n k
