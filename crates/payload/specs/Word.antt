-- Words of 32 bits in a list of bytes, low byte first.
use Rattle.std.specs.Prelude.{List, ℕ, zero, suc, ◌+◌, ◌*◌, ◌/◌, ◌%◌, ◌<◌, get_or, set}

-- each element is a byte
abbrev pub Bytes : List ℕ → Type 0
Bytes list = (i : ℕ) → get_or list i 0 < 256

-- each element is a word
abbrev pub Words : List ℕ → Type 0
Words list = (i : ℕ) → get_or list i 0 < 4294967296

-- the word of four bytes
abbrev pub joined : ℕ → ℕ → ℕ → ℕ → ℕ
joined a b c d = a + 256 * b + 65536 * c + 16777216 * d

-- byte q of a word, q below 4
abbrev pub byte_of : ℕ → ℕ → ℕ
byte_of word zero = word % 256
byte_of word (suc zero) = word / 256 % 256
byte_of word (suc (suc zero)) = word / 65536 % 256
byte_of word (suc (suc (suc q))) = word / 16777216 % 256

-- word j of a list of bytes
unfoldable pub word_at : List ℕ → ℕ → ℕ
word_at bytes j = joined (get_or bytes (j * 4) 0) (get_or bytes (j * 4 + 1) 0) (get_or bytes (j * 4 + 2) 0) (get_or bytes (j * 4 + 3) 0)

-- the bytes with `word` put as word j
unfoldable pub put_word : List ℕ → ℕ → ℕ → List ℕ
put_word bytes j word =
    set (set (set (set bytes (j * 4) (byte_of word 0)) (j * 4 + 1) (byte_of word 1)) (j * 4 + 2) (byte_of word 2)) (j * 4 + 3) (byte_of word 3)
