-- A block: 512 bytes that are 128 words. Word 0 is the kind, word 1 the block's number, words 2..126 the payload, word 127 the check word.
use Rattle.std.specs.Prelude.{cond, List, ℕ, zero, suc, ◌+◌, ◌*◌, ◌%◌, ltb}
use Rattle.tables.specs.Grid.{row_words}
use Rattle.tables.specs.Sum.{sum}
use Rattle.payload.specs.Word.{byte_of}

-- word j by its weight
abbrev pub weighed : (ℕ → ℕ) → ℕ → ℕ
weighed word j = (2 * j + 1) * word j

-- the sum of (2 j + 1) × word j, j = 0..126, modulo 2 ^ 32
unfoldable pub check_word : (ℕ → ℕ) → ℕ
check_word word = sum 127 (weighed word) % 4294967296

-- words 0..126 of a block with this payload
unfoldable pub body_word : ℕ → ℕ → (ℕ → ℕ) → ℕ → ℕ
body_word kind number payload zero = kind
body_word kind number payload (suc zero) = number
body_word kind number payload (suc (suc j)) = payload j

-- words 0..127
unfoldable pub block_word : ℕ → ℕ → (ℕ → ℕ) → ℕ → ℕ
block_word kind number payload j =
    cond (ltb j 127) (body_word kind number payload j) (check_word (body_word kind number payload))

-- byte q of word j
abbrev pub block_byte : ℕ → ℕ → (ℕ → ℕ) → ℕ → ℕ → ℕ
block_byte kind number payload j q = byte_of (block_word kind number payload j) q

-- the 512 bytes
unfoldable pub block_of : ℕ → ℕ → (ℕ → ℕ) → List ℕ
block_of kind number payload = row_words 4 128 (block_byte kind number payload)
