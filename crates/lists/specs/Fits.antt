-- What the functions ask of the lists that they are lent: the test of all lengths gives the first three, the ranges of document 01 and the
-- checks of a record the last.
use Rattle.std.specs.Prelude.{ℕ, suc, ◌+◌, ◌*◌, ◌≤◌, ◌≡◌, List, length}
use Rattle.lists.specs.Words.{links_of, steps_of, node_at, corridor_length, node_width, demands_length, record_length, Width}
use Rattle.lists.specs.Rows.{state_in}

-- the corridor's list has the words that its N tells, in its kind
pub record CorridorFits (corridor : List ℕ) (links : ℕ) : Type 0 where
  pub first : links ≡ links_of corridor
  pub few : links ≤ 64
  pub words : length corridor ≡ corridor_length (node_width links (length corridor)) links

-- the demands' list has at least the words of kind 2, which N and its K tell
pub record DemandsFit (demands : List ℕ) (links steps : ℕ) : Type 0 where
  pub first : steps ≡ steps_of demands
  pub few : links ≤ 64
  pub short : steps ≤ 1440
  pub words : demands_length links steps ≤ length demands

-- the record's list has the words that N, K and its kind tell
pub record RecordFits (width links steps : ℕ) (words : List ℕ) : Type 0 where
  pub few : links ≤ 64
  pub short : steps ≤ 1440
  pub wide : Width width
  pub sized : length words ≡ record_length width links steps

-- a row has `width` words for each node
abbrev pub RowFits : ℕ → List ℕ → ℕ → Type 0
RowFits width row links = length row ≡ suc links * width

-- node i's words are in a row
abbrev pub NodeIn : ℕ → List ℕ → ℕ → Type 0
NodeIn width row i = i * width + width ≤ length row

-- in a record's row no link holds more than its jam
abbrev pub JamKept : ℕ → List ℕ → List ℕ → ℕ → Type 0
JamKept width corridor row links = (i : ℕ) → i ≤ links → (state_in width row i).vehicles ≤ (node_at corridor i).link.jam
