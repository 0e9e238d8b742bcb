-- The program's input: a corridor's, the demands' and a record's file, one after another. N, K and the kinds of corridor, demands and
-- record are taken from the files themselves.
use Rattle.std.specs.Prelude.{ℕ, ◌+◌, ◌-◌, ◌*◌, List, leb, eqb, length, take, drop}
use Rattle.tables.specs.Answer.{Answer}
use Rattle.tables.specs.Answer.{or_else, sized}
use Rattle.faults.specs.Lists.{within}
use Rattle.payload.specs.File.{blocks_for, word_in}
use Rattle.seals.specs.Reading.{tested}
use Rattle.block.specs.declared.Kind.{Kind}
use Rattle.block.specs.declared.Kind.TheVariants.{Demands, Record}
use Rattle.block.specs.Kinds.{list_length, file_kind}
use Rattle.file_rows.specs.Words.{corridor_count}
use Rattle.files.specs.Files.{read_then_check}

-- N: word 2 of the corridor's first block
unfoldable pub links_in : List ℕ → ℕ
links_in input = word_in input 0 2

-- the block with which the demands start: word 0 of the corridor's first block, with which the input starts, chooses the corridor's kind
unfoldable pub demands_block : List ℕ → ℕ
demands_block input = blocks_for (corridor_count (links_in input) input)

-- K: word 2 of the demands' first block
unfoldable pub steps_in : List ℕ → ℕ
steps_in input = word_in input (demands_block input) 2

-- the demands' kind: word 0 of their first block chooses
unfoldable pub demands_kind : List ℕ → Kind
demands_kind input = file_kind Demands (drop (demands_block input * 512) input)

-- the block with which the record starts
unfoldable pub record_block : List ℕ → ℕ
record_block input = demands_block input + blocks_for (list_length (demands_kind input) (links_in input) (steps_in input))

-- ---- the three files

abbrev pub corridor_file : List ℕ → List ℕ
corridor_file input = take (demands_block input * 512) input

abbrev pub demands_file : List ℕ → List ℕ
demands_file input = take (record_block input * 512 - demands_block input * 512) (drop (demands_block input * 512) input)

abbrev pub record_file : List ℕ → List ℕ
record_file input = drop (record_block input * 512) input

-- ---- the end

-- the record's kind: word 0 of its first block chooses, and an input that ends before this word does has a record of kind 3
unfoldable pub record_kind : List ℕ → Kind
record_kind input = file_kind Record (record_file input)

-- the block past the record's end
unfoldable pub end_block : List ℕ → ℕ
end_block input = record_block input + blocks_for (list_length (record_kind input) (links_in input) (steps_in input))

-- ---- what is refused

-- "The program gives 14 above 65,536 bytes, takes N from word 2 of the corridor's first block and K from word 2 of the demands' first block
-- (14 if the input ends before that word's last byte, 1 if it is bad, N first), gives 14 unless the length is just that of the three files, then
-- reads them in turn." Then it checks the record.
unfoldable pub input_answer : List ℕ → Answer
input_answer input =
    or_else (tested (leb (length input) 65536) 14 0)
    (or_else (tested (leb 12 (length input)) 14 0)
    (or_else (sized (within 1 64 (links_in input)))
    (or_else (tested (leb (demands_block input * 512 + 12) (length input)) 14 0)
    (or_else (sized (within 1 1440 (steps_in input)))
    (or_else (tested (eqb (length input) (end_block input * 512)) 14 0)
    (read_then_check (links_in input) (steps_in input) (corridor_file input) (demands_file input) (record_file input)))))))
