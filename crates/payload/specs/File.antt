-- A file: the payload's words, 125 to a block, zeros after its end. The payload may be any words, of any length.
use Rattle.std.specs.Prelude.{cond, List, ◌≢◌, ◌≡◌, ℕ, zero, suc, ◌+◌, ◌*◌, ◌/◌, ◌%◌, ◌<◌, ltb, length, get_or}
use Rattle.tables.specs.Grid.{grid}
use Rattle.tables.specs.Tabulate.{tabulate}
use Rattle.payload.specs.Word.{word_at, put_word}
use Rattle.payload.specs.Block.{block_byte}

-- how many blocks m payload words take
abbrev pub blocks_for : ℕ → ℕ
blocks_for m = (m + 124) / 125

-- payload word i of block t
abbrev pub payload_in : List ℕ → ℕ → ℕ → ℕ
payload_in words t i = get_or words (t * 125 + i) 0

-- the file of a payload: its blocks, one after another
unfoldable pub file_of : ℕ → List ℕ → List ℕ
file_of kind words = grid 4 128 (blocks_for (length words)) (λ t. block_byte kind t (payload_in words t))

-- ---- the words of a file, read where they stand

-- word j of block t
abbrev pub word_in : List ℕ → ℕ → ℕ → ℕ
word_in file t j = word_at file (t * 128 + j)

-- the place of payload word j among the file's words
abbrev pub payload_place : ℕ → ℕ
payload_place j = j / 125 * 128 + (2 + j % 125)

-- payload word j
unfoldable pub payload_word : List ℕ → ℕ → ℕ
payload_word file j = word_at file (payload_place j)

-- n payload words from word `from` on
abbrev pub payload_part : ℕ → ℕ → List ℕ → List ℕ
payload_part from n file = tabulate n (λ i. payload_word file (from + i))

-- the whole payload of m words
abbrev pub payload_of : ℕ → List ℕ → List ℕ
payload_of m file = tabulate m (payload_word file)

-- ---- words put where they are to stand

-- the first n words, put as payload words `from` and on
unfoldable pub put_first : ℕ → List ℕ → ℕ → List ℕ → List ℕ
put_first zero file from words = file
put_first (suc n) file from words = put_word (put_first n file from words) (payload_place (from + n)) (get_or words n 0)

-- all of them
abbrev pub put_payload : List ℕ → ℕ → List ℕ → List ℕ
put_payload file from words = put_first (length words) file from words

-- the payload words that a block's 512 bytes hold, zeros from word `left` on
unfoldable pub kept_word : List ℕ → ℕ → ℕ → ℕ
kept_word block left i = cond (ltb i left) (word_at block (2 + i)) 0

-- `after` is a block with the same words, but zeros as payload words `left` and on
pub record Cleared (before : List ℕ) (left : ℕ) (after : List ℕ) : Type 0 where
  pub same : length after ≡ length before
  pub head : (j : ℕ) → j < 2 → word_at after j ≡ word_at before j
  pub payload : (i : ℕ) → i < 125 → word_at after (2 + i) ≡ kept_word before left i

-- ---- a change

-- `other` is `file` but for just one word, word i of block t
pub record OneChange (file other : List ℕ) (t i : ℕ) : Type 0 where
  pub same : length other ≡ length file
  pub others : (j : ℕ) → j ≢ t * 128 + i → word_at other j ≡ word_at file j
  pub differs : word_in other t i ≢ word_in file t i
