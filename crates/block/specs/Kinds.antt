-- The kinds of file: each one's number, its payload's length from N and K, and whether its first word is N, K or neither.
-- A place is named by its oldest kind. That of the corridor takes two, 1 and 10, that of the demands 2 and 5, that of the record 3 and 7; `file_kind` and `list_kind` say which of them a file or a list is.
use Rattle.std.specs.Prelude.{Bool, true, cond, List, ℕ, ◌≤◌, eqb, leb, length}
use Rattle.lists.specs.Words.{corridor_length, demands_length, downstream_length, plan_length, record_length}
use Rattle.payload.specs.Word.{word_at}
use Rattle.block.specs.declared.Kind.{Kind}
use Rattle.block.specs.declared.Kind.TheVariants.{Corridor, CorridorDrop, Demands, DemandsDownstream, Record, RecordExits, Plan}

-- N is 1..64 and K is 1..1,440
pub record Told (n k : ℕ) : Type 0 where
  pub links_low : 1 ≤ n
  pub links_high : n ≤ 64
  pub steps_low : 1 ≤ k
  pub steps_high : k ≤ 1440

-- word 0 of each block
unfoldable pub kind_number : Kind → ℕ
kind_number Corridor = 1
kind_number CorridorDrop = 10
kind_number Demands = 2
kind_number DemandsDownstream = 5
kind_number Record = 3
kind_number RecordExits = 7
kind_number Plan = 4

-- the words of a list, told N and K
unfoldable pub list_length : Kind → ℕ → ℕ → ℕ
list_length Corridor n k = corridor_length 9 n
list_length CorridorDrop n k = corridor_length 11 n
list_length Demands n k = demands_length n k
list_length DemandsDownstream n k = downstream_length n k
list_length Record n k = record_length 4 n k
list_length RecordExits n k = record_length 5 n k
list_length Plan n k = plan_length n k

-- whether a list's first word is as told: a corridor's is its own N, that of demands their own K
unfoldable pub own_agrees : Kind → ℕ → ℕ → ℕ → Bool
own_agrees Corridor n k word = eqb word n
own_agrees CorridorDrop n k word = eqb word n
own_agrees Demands n k word = eqb word k
own_agrees DemandsDownstream n k word = eqb word k
own_agrees Record n k word = true
own_agrees RecordExits n k word = true
own_agrees Plan n k word = true

-- ---- which kind, where a place takes more than one: the first argument is the oldest of the place

-- the later kind that also fits its place, and the kind itself where none does
unfoldable pub later : Kind → Kind
later Corridor = CorridorDrop
later CorridorDrop = CorridorDrop
later Demands = DemandsDownstream
later DemandsDownstream = DemandsDownstream
later Record = RecordExits
later RecordExits = RecordExits
later Plan = Plan

-- word 0 of the file's first block; a file that ends before it does has none, and 0 is the number of no kind
unfoldable pub kind_word : List ℕ → ℕ
kind_word file = cond (leb 4 (length file)) (word_at file 0) 0

-- whether it is the later kind's number
abbrev pub says_later : Kind → List ℕ → Bool
says_later kind file = eqb (kind_word file) (kind_number (later kind))

-- "Should a later kind also fit a place, word 0 of the file's first block chooses, and any other value, or none, is read as the oldest kind."
unfoldable pub file_kind : Kind → List ℕ → Kind
file_kind kind file = cond (says_later kind file) (later kind) kind

-- "For a word list, a lent output included, its length chooses": the kind of a list of `count` words, told N and K
unfoldable pub list_kind : Kind → ℕ → ℕ → ℕ → Kind
list_kind kind n k count = cond (eqb count (list_length (later kind) n k)) (later kind) kind
