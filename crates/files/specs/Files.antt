-- Checker and converter on block files: "Told N and K, they give 1 for a bad one or a wrong output length, then read corridor, demands and
-- record in turn; the converter writes a plan file."
use Rattle.std.specs.Prelude.{◌&&◌, List, ℕ, ◌*◌, eqb, length}
use Rattle.tables.specs.Answer.{Answer}
use Rattle.tables.specs.Answer.{or_else, left, sized}
use Rattle.lists.specs.Words.{plan_length}
use Rattle.convert.specs.Convert.{check_answer, converted}
use Rattle.payload.specs.File.{blocks_for, file_of}
use Rattle.block.specs.declared.Kind.TheVariants.{Corridor, Demands, Record, Plan}
use Rattle.block.specs.Kinds.{kind_number, file_kind}
use Rattle.block.specs.Calls.{told_fits, file_answer}
use Rattle.file_rows.specs.Words.{corridor_in, demands_in, file_width, record_in}

-- ---- answers

-- 14 to 18, and 1 for an own N or K that differs: each file is read whole before the next
unfoldable pub files_answer : ℕ → ℕ → List ℕ → List ℕ → List ℕ → Answer
files_answer n k corridor demands recorded =
    or_else (file_answer (file_kind Corridor corridor) n k corridor)
    (or_else (file_answer (file_kind Demands demands) n k demands) (file_answer (file_kind Record recorded) n k recorded))

-- then what the checker answers to the words that were read
unfoldable pub read_then_check : ℕ → ℕ → List ℕ → List ℕ → List ℕ → Answer
read_then_check n k corridor demands recorded =
    or_else (files_answer n k corridor demands recorded)
    (check_answer (corridor_in n corridor) (demands_in n k demands) (record_in (file_width recorded) n k recorded))

unfoldable pub check_files : ℕ → ℕ → List ℕ → List ℕ → List ℕ → Answer
check_files n k corridor demands recorded = or_else (sized (told_fits n k)) (read_then_check n k corridor demands recorded)

-- `room` is the length of the lent plan file
unfoldable pub convert_files : ℕ → ℕ → List ℕ → List ℕ → List ℕ → ℕ → Answer
convert_files n k corridor demands recorded room =
    or_else (sized (told_fits n k && eqb room (blocks_for (plan_length n k) * 512))) (read_then_check n k corridor demands recorded)

-- ---- the plan file

unfoldable pub plan_file : ℕ → ℕ → List ℕ → List ℕ → List ℕ → List ℕ
plan_file n k corridor demands recorded =
    file_of (kind_number Plan) (converted (corridor_in n corridor) (demands_in n k demands) (record_in (file_width recorded) n k recorded))

-- the lent file at exit
unfoldable pub plan_written : ℕ → ℕ → List ℕ → List ℕ → List ℕ → List ℕ → List ℕ
plan_written n k corridor demands recorded lent =
    left (convert_files n k corridor demands recorded (length lent)) (plan_file n k corridor demands recorded) lent
