-- The rows of one step out of the files, and what is asked of a file.
use Rattle.std.specs.Prelude.{List, ◌≡◌, ℕ, suc, ◌+◌, ◌*◌, length}
use Rattle.lists.specs.Words.{downstream_word}
use Rattle.payload.specs.File.{blocks_for, payload_part}
use Rattle.file_rows.specs.Words.{demands_in}

-- a file has the blocks of m payload words
abbrev pub Holds : ℕ → List ℕ → Type 0
Holds m file = length file ≡ blocks_for m * 512

-- the row of step k out of the demands' file, and that of state k out of a record's
abbrev pub demand_row_in : ℕ → List ℕ → ℕ → List ℕ
demand_row_in links file k = payload_part (1 + k * ((links + 1) * 2)) ((links + 1) * 2) file

abbrev pub state_row_in : ℕ → ℕ → List ℕ → ℕ → List ℕ
state_row_in width links file k = payload_part (k * (suc links * width)) (suc links * width) file

-- the flow that may leave link N in step k, in the words of the demands' file
abbrev pub downstream_in : ℕ → ℕ → List ℕ → ℕ → ℕ
downstream_in links steps file k = downstream_word (demands_in links steps file) links steps k
