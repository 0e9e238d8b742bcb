-- The refusals of the lists in terms of their words, for the functions that scan a corridor or the rows of a list.
use Rattle.std.specs.Prelude.{ℕ, zero, suc, ◌+◌, ◌*◌, ◌≤◌, ◌<◌, cond, ◌≡◌, List, length, get_or, eqb}
use Rattle.tables.specs.Answer.{Answer}
use Rattle.tables.specs.Answer.{or_else}
use Rattle.tables.specs.First.{first_node, first_place}
use Rattle.tables.specs.Grid.{place, row_words}
use Rattle.lists.specs.Words.{node_at, free}
use Rattle.faults.specs.Lists.{link_fault, ramp_fault, start_fault, demand_fault, plan_fault}
use Rattle.list_scans.specs.Refusals.{fresh}

-- what is looked for at a node: refusals 2, 3 and 4 in the corridor's words, 5 in a row of the demands, 6 in a row of a plan
pub data NodeTest : Type 0 where
  Link : NodeTest
  Ramp : NodeTest
  Start : NodeTest
  Demand : NodeTest
  Plan : NodeTest

-- what a test finds at node i: 2, 3 or 4 in the corridor's words; 5 or 6 in the node's two words in a row of the demands or of a plan, and 5
-- in the row's flow that may leave link N
unfoldable pub node_fault : NodeTest → List ℕ → ℕ → ℕ → ℕ → ℕ → ℕ → ℕ
node_fault Link corridor links i first second downstream = link_fault i (node_at corridor i).link
node_fault Ramp corridor links i first second downstream =
    ramp_fault (eqb i links) (node_at corridor i).identifier (node_at corridor i).ramp (fresh (λ j. (node_at corridor j).identifier) i)
node_fault Start corridor links i first second downstream = start_fault (node_at corridor i)
node_fault Demand corridor links i first second downstream = demand_fault links i first second downstream
node_fault Plan corridor links i first second downstream = plan_fault (node_at corridor i).link (node_at corridor i).ramp first second

-- in one row
abbrev pub node_fault_in : NodeTest → List ℕ → ℕ → List ℕ → ℕ → ℕ → ℕ
node_fault_in test corridor links row downstream i = node_fault test corridor links i (get_or row (i * 2 + 0) 0) (get_or row (i * 2 + 1) 0) downstream

-- in row k of a list that has `steps` rows after `skip` words, and may have a word more for each row after them
abbrev pub node_fault_at : NodeTest → List ℕ → ℕ → ℕ → ℕ → List ℕ → ℕ → ℕ → ℕ
node_fault_at test corridor links steps skip list k i =
    node_fault test corridor links i (get_or list (skip + place 2 (suc links) k i 0) 0) (get_or list (skip + place 2 (suc links) k i 1) 0)
    (get_or list (skip + steps * (suc links * 2) + k) free)

-- whether a test reads a row
unfoldable pub ReadsRow : NodeTest → Type 0
ReadsRow Link = ⊥
ReadsRow Ramp = ⊥
ReadsRow Start = ⊥
ReadsRow Demand = Unit {0}
ReadsRow Plan = Unit {0}

-- what bounds the words of node i in the row: of the demands 65,536, and 0 where zero is fixed; of a plan C and V
unfoldable pub most_word : NodeTest → List ℕ → ℕ → ℕ → ℕ → ℕ
most_word Link corridor links i q = 0
most_word Ramp corridor links i q = 0
most_word Start corridor links i q = 0
most_word Demand corridor links i zero = cond (eqb i links) 0 65536
most_word Demand corridor links i (suc q) = cond (eqb i links) 0 (cond (eqb i 0) 0 65536)
most_word Plan corridor links i zero = (node_at corridor i).ramp.capacity
most_word Plan corridor links i (suc q) = (node_at corridor i).link.full_speed

-- both, as the code has them
abbrev pub MostAre : NodeTest → List ℕ → ℕ → ℕ → ℕ → ℕ → Type 0
MostAre test corridor links i first second = (first ≡ most_word test corridor links i 0) × (second ≡ most_word test corridor links i 1)

unfoldable pub most_row : NodeTest → List ℕ → ℕ → List ℕ
most_row test corridor links = row_words 2 (suc links) (most_word test corridor links)

-- no word of a row is above its bound, and what may leave link N is in its range
pub record Within (row most : List ℕ) (downstream : ℕ) : Type 0 where
  pub words : (j : ℕ) → j < length row → get_or row j 0 ≤ get_or most j 0
  pub beyond : downstream ≤ 65536

-- 2, 3 or 4 over the corridor's nodes, which ask nothing of a row
abbrev pub corridor_scan : NodeTest → List ℕ → ℕ → Answer
corridor_scan test corridor links = first_node (suc links) 0 (λ i. node_fault test corridor links i 0 0 0)

-- 2 to 4
unfoldable pub corridor_refusal : List ℕ → ℕ → Answer
corridor_refusal corridor links = or_else (corridor_scan Link corridor links) (or_else (corridor_scan Ramp corridor links) (corridor_scan Start corridor links))

-- 5 over the demands' rows, and 6 over a plan's
abbrev pub demands_refusal : List ℕ → ℕ → ℕ → List ℕ → Answer
demands_refusal corridor links steps demands = first_place steps (suc links) (node_fault_at Demand corridor links steps 1 demands)

abbrev pub plan_refusal : List ℕ → ℕ → ℕ → List ℕ → Answer
plan_refusal corridor links steps plan = first_place steps (suc links) (node_fault_at Plan corridor links steps 0 plan)
