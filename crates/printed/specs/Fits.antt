-- What the functions ask and answer in between: the tails of the input's answer, where its files start, and the cost that the
-- record states.
use Rattle.std.specs.Prelude.{ℕ, ◌+◌, ◌*◌, List, ◌≡◌, leb, eqb, length}
use Rattle.tables.specs.Answer.{Answer}
use Rattle.tables.specs.Answer.{or_else, sized}
use Rattle.lists.specs.Words.{trace_length}
use Rattle.faults.specs.Lists.{within}
use Rattle.payload.specs.File.{blocks_for, payload_word}
use Rattle.seals.specs.Reading.{tested}
use Rattle.block.specs.declared.Kind.{Kind}
use Rattle.block.specs.Kinds.{list_length}
use Rattle.file_rows.specs.Words.{file_width}
use Rattle.files.specs.Files.{read_then_check}
use Rattle.printed.specs.declared.inner.input.Layout.{Layout}
use Rattle.printed.specs.Input.{links_in, steps_in, demands_block, end_block, corridor_file, demands_file, record_file}

-- ---- what is left of the answer

-- once N and K are good
abbrev pub files_left : List ℕ → Answer
files_left input =
    or_else (tested (eqb (length input) (end_block input * 512)) 14 0)
    (read_then_check (links_in input) (steps_in input) (corridor_file input) (demands_file input) (record_file input))

-- once N is good
abbrev pub steps_left : List ℕ → Answer
steps_left input =
    or_else (tested (leb (demands_block input * 512 + 12) (length input)) 14 0)
    (or_else (sized (within 1 1440 (steps_in input))) (files_left input))

-- ---- where the files of N links and K steps start, with demands of this kind that start with this block

pub record Laid (block : ℕ) (kind : Kind) (n k : ℕ) (layout : Layout) : Type 0 where
  pub demands : layout.demands ≡ block * 512
  pub recorded : layout.recorded ≡ (block + blocks_for (list_length kind n k)) * 512

-- ---- the cost that a record's file states, in the two words after those of all states

abbrev pub stated_cost : ℕ → ℕ → List ℕ → ℕ
stated_cost links steps file =
    payload_word file (trace_length (file_width file) links steps + 1) * 4294967296 + payload_word file (trace_length (file_width file) links steps)
