-- What a reader and a writer answer, told N and K, and what they leave of the lent list.
use Rattle.std.specs.Prelude.{Bool, ◌&&◌, List, ℕ, ◌*◌, eqb, length, get_or}
use Rattle.tables.specs.Answer.{Answer}
use Rattle.tables.specs.Answer.{or_else, left, sized}
use Rattle.faults.specs.Lists.{within}
use Rattle.block.specs.declared.Kind.{Kind}
use Rattle.payload.specs.File.{blocks_for, payload_word, payload_of, file_of}
use Rattle.seals.specs.Reading.{payload_answer}
use Rattle.block.specs.Kinds.{kind_number, list_length, own_agrees}

-- whether N and K as told are good
unfoldable pub told_fits : ℕ → ℕ → Bool
told_fits n k = within 1 64 n && within 1 1440 k

-- ---- reading: `room` is the length of the lent list of words

-- 14 to 18, then 1 if the file's own N or K differs
unfoldable pub file_answer : Kind → ℕ → ℕ → List ℕ → Answer
file_answer kind n k file =
    or_else (payload_answer (kind_number kind) (list_length kind n k) file) (sized (own_agrees kind n k (payload_word file 0)))

-- before them, 1 for a bad N or K or a wrong output length
unfoldable pub read_answer : Kind → ℕ → ℕ → List ℕ → ℕ → Answer
read_answer kind n k file room = or_else (sized (told_fits n k && eqb room (list_length kind n k))) (file_answer kind n k file)

-- the lent list of words at exit
unfoldable pub words_read : Kind → ℕ → ℕ → List ℕ → List ℕ → List ℕ
words_read kind n k file lent = left (read_answer kind n k file (length lent)) (payload_of (list_length kind n k) file) lent

-- ---- writing: `room` is the length of the lent file

-- 1 for a bad N or K, a wrong lent length, a list of the wrong length, or a list whose own N or K differs
unfoldable pub write_answer : Kind → ℕ → ℕ → List ℕ → ℕ → Answer
write_answer kind n k words room =
    sized
    (told_fits n k
    && (eqb room (blocks_for (list_length kind n k) * 512)
    && (eqb (length words) (list_length kind n k)
    && own_agrees kind n k (get_or words 0 0))))

-- the lent file at exit
unfoldable pub file_written : Kind → ℕ → ℕ → List ℕ → List ℕ → List ℕ
file_written kind n k words lent = left (write_answer kind n k words (length lent)) (file_of (kind_number kind) words) lent
