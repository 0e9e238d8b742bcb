-- Lists of rows of nodes of c words.
use Rattle.std.specs.Prelude.{List, ℕ, ◌+◌, ◌*◌, ◌/◌, ◌%◌}
use Rattle.tables.specs.Tabulate.{tabulate}

-- word j of places of c words each: word j % c of place j / c
unfoldable pub cell : ℕ → (ℕ → ℕ → ℕ) → ℕ → ℕ
cell c word j = word (j / c) (j % c)

-- n nodes of c words: word q of node i is `word i q`
unfoldable pub row_words : ℕ → ℕ → (ℕ → ℕ → ℕ) → List ℕ
row_words c n word = tabulate (n * c) (cell c word)

-- m rows of n nodes of c words: word q of node i in row k is `word k i q`
unfoldable pub grid : ℕ → ℕ → ℕ → (ℕ → ℕ → ℕ → ℕ) → List ℕ
grid c n m word = tabulate (m * (n * c)) (cell (n * c) (λ k. cell c (word k)))

-- where word q of node i in row k stands
abbrev pub place : ℕ → ℕ → ℕ → ℕ → ℕ → ℕ
place c n k i q = k * (n * c) + (i * c + q)
