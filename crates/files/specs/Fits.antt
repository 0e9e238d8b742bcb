-- What the functions ask of the files that they are lent: the readers' tests give it.
use Rattle.std.specs.Prelude.{List, ◌≡◌, ℕ}
use Rattle.tables.specs.Answer.{Answer}
use Rattle.tables.specs.Answer.{Accepted}
use Rattle.tables.specs.Answer.{or_else}
use Rattle.lists.specs.Words.{road_of, record_length}
use Rattle.list_scans.specs.Refusals.{ranges}
use Rattle.convert.specs.Refusals.{judged}
use Rattle.convert_rows.specs.Rows.{plan_row}
use Rattle.payload.specs.File.{payload_word}
use Rattle.block.specs.Kinds.{Told}
use Rattle.file_rows.specs.Words.{corridor_count, corridor_in, demands_count, demands_in, file_width, record_in}
use Rattle.file_rows.specs.Rows.{Holds, demand_row_in, downstream_in, state_row_in}

-- N and K are good, the three files have their blocks, and their own N and K are as told
pub record FilesFit (links steps : ℕ) (corridor demands recorded : List ℕ) : Type 0 where
  pub told : Told links steps
  pub corridor_holds : Holds (corridor_count links corridor) corridor
  pub demands_hold : Holds (demands_count links steps demands) demands
  pub record_holds : Holds (record_length (file_width recorded) links steps) recorded
  pub own_links : payload_word corridor 0 ≡ links
  pub own_steps : payload_word demands 0 ≡ steps

-- the checker accepts the words in the files
pub record Accepts (links steps : ℕ) (corridor demands recorded : List ℕ) : Type 0 where
  pub ranged : ranges (road_of (corridor_in links corridor) (demands_in links steps demands)) ≡ Accepted
  pub judges : judged (file_width recorded) (road_of (corridor_in links corridor) (demands_in links steps demands))
      (record_in (file_width recorded) links steps recorded) ≡ Accepted

-- 2 to 5 and 7 to 13, in the words of the files
abbrev pub words_answer : ℕ → ℕ → List ℕ → List ℕ → List ℕ → Answer
words_answer links steps corridor demands recorded =
    or_else (ranges (road_of (corridor_in links corridor) (demands_in links steps demands)))
    (judged (file_width recorded) (road_of (corridor_in links corridor) (demands_in links steps demands))
    (record_in (file_width recorded) links steps recorded))

-- the plan's row of step k
abbrev pub plan_row_in : ℕ → List ℕ → ℕ → ℕ → List ℕ → List ℕ → ℕ → List ℕ
plan_row_in width corridor links steps demands recorded k =
    plan_row width corridor links (demand_row_in links demands k) (downstream_in links steps demands k) (state_row_in width links recorded k)
