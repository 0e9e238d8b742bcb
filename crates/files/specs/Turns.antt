-- The calls on files in the words of their promise: reading the three files in turn, then checking or converting the lists, then writing the
-- plan file.
use Rattle.std.specs.Prelude.{◌&&◌, List, ◌≡◌, ℕ, ◌*◌, eqb, length}
use Rattle.tables.specs.Answer.{Answer}
use Rattle.tables.specs.Answer.{Accepted}
use Rattle.tables.specs.Answer.{or_else, sized}
use Rattle.lists.specs.Words.{plan_length}
use Rattle.convert.specs.Convert.{converted, check_answer, convert_answer}
use Rattle.payload.specs.File.{blocks_for}
use Rattle.block.specs.declared.Kind.TheVariants.{Corridor, Demands, Record, Plan}
use Rattle.block.specs.Kinds.{file_kind}
use Rattle.block.specs.Calls.{told_fits, read_answer, words_read, file_written}
use Rattle.files.specs.Files.{check_files, convert_files, plan_written}

-- the three readers in turn, into lists of the lengths that N, K and their files tell, and then `rest` of what they read
unfoldable pub in_turn : ℕ → ℕ → List ℕ → List ℕ → List ℕ → List ℕ → List ℕ → List ℕ → (List ℕ → List ℕ → List ℕ → Answer) → Answer
in_turn n k corridor demands recorded a b c rest =
    or_else (read_answer (file_kind Corridor corridor) n k corridor (length a))
    (or_else (read_answer (file_kind Demands demands) n k demands (length b))
    (or_else (read_answer (file_kind Record recorded) n k recorded (length c))
    (rest (words_read (file_kind Corridor corridor) n k corridor a) (words_read (file_kind Demands demands) n k demands b)
    (words_read (file_kind Record recorded) n k recorded c))))

pub record Turns (n k : ℕ) (corridor demands recorded a b c : List ℕ) : Type 0 where
  pub checks : check_files n k corridor demands recorded ≡ or_else (sized (told_fits n k)) (in_turn n k corridor demands recorded a b c check_answer)
  -- into a plan of the right length
  pub converts : (room : ℕ)
      → convert_files n k corridor demands recorded room
      ≡ or_else (sized (told_fits n k && eqb room (blocks_for (plan_length n k) * 512)))
      (in_turn n k corridor demands recorded a b c (λ x y z. convert_answer x y z (plan_length n k)))
  -- the file that the writer makes of the converter's plan
  pub writes : (lent : List ℕ) → convert_files n k corridor demands recorded (length lent) ≡ Accepted
      → plan_written n k corridor demands recorded lent
      ≡ file_written Plan n k (converted (words_read (file_kind Corridor corridor) n k corridor a) (words_read (file_kind Demands demands) n k demands b)
      (words_read (file_kind Record recorded) n k recorded c)) lent
