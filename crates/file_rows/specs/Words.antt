-- The words of each file, told N and K: word 0 of a file chooses between its kinds.
use Rattle.std.specs.Prelude.{cond, List, ℕ}
use Rattle.lists.specs.Words.{corridor_length, record_length}
use Rattle.payload.specs.File.{payload_of}
use Rattle.block.specs.declared.Kind.TheVariants.{Corridor, Demands, Record}
use Rattle.block.specs.Kinds.{list_length, says_later, file_kind}

-- a corridor of kind 1 or of kind 10, as word 0 of its file chooses: how many words it has, which K has no part in, and these words
abbrev pub corridor_count : ℕ → List ℕ → ℕ
corridor_count n file = corridor_length (cond (says_later Corridor file) 11 9) n

abbrev pub corridor_in : ℕ → List ℕ → List ℕ
corridor_in n file = payload_of (corridor_count n file) file

-- demands of kind 2 or of kind 5, chosen in the same way
abbrev pub demands_count : ℕ → ℕ → List ℕ → ℕ
demands_count n k file = list_length (file_kind Demands file) n k

abbrev pub demands_in : ℕ → ℕ → List ℕ → List ℕ
demands_in n k file = payload_of (demands_count n k file) file

-- a record of kind 3 or of kind 7, chosen in the same way: how many words a node has in it, and all its words
abbrev pub file_width : List ℕ → ℕ
file_width file = cond (says_later Record file) 5 4

abbrev pub record_in : ℕ → ℕ → ℕ → List ℕ → List ℕ
record_in width n k file = payload_of (record_length width n k) file
