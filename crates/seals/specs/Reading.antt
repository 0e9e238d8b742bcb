-- What refuses a file of m payload words: 14, then 15, 16, 17 block by block, then 18.
use Rattle.std.specs.Prelude.{Bool, List, ℕ, ◌+◌, ◌-◌, ◌*◌, eqb, length}
use Rattle.tables.specs.Answer.{Answer}
use Rattle.tables.specs.Answer.{or_else, refusal, unless}
use Rattle.tables.specs.First.{first}
use Rattle.payload.specs.Block.{check_word}
use Rattle.payload.specs.File.{blocks_for, word_in, payload_word}

-- a refusal at a row, unless the test holds
abbrev pub tested : Bool → ℕ → ℕ → Answer
tested fits number row = refusal (unless fits number) row 0

-- bytes missing or left over
unfoldable pub length_answer : ℕ → List ℕ → Answer
length_answer m file = tested (eqb (length file) (blocks_for m * 512)) 14 0

-- block t: its check word, its kind, its number
unfoldable pub block_answer : ℕ → List ℕ → ℕ → Answer
block_answer kind file t =
    or_else (tested (eqb (word_in file t 127) (check_word (word_in file t))) 15 t)
    (or_else (tested (eqb (word_in file t 0) kind) 16 t) (tested (eqb (word_in file t 1) t) 17 t))

-- word i after the payload's end: it stands in the last block
unfoldable pub padding_answer : ℕ → List ℕ → ℕ → Answer
padding_answer m file i = tested (eqb (payload_word file (m + i)) 0) 18 (blocks_for m - 1)

-- all of 14 to 18
unfoldable pub payload_answer : ℕ → ℕ → List ℕ → Answer
payload_answer kind m file =
    or_else (length_answer m file)
    (or_else (first (blocks_for m) (block_answer kind file)) (first (blocks_for m * 125 - m) (padding_answer m file)))
