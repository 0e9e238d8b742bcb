-- What an answer says: the parts of a refusal, the number that the C host gets, two answers one after the other, a refusal by its fault's
-- number, and what a refused call leaves of a lent list.
use Rattle.std.specs.Prelude.{Bool, true, false, List, ◌↔◌, ◌≡◌, ℕ, zero, suc, ◌+◌, ◌*◌, ◌/◌, ◌%◌, ◌≤◌, Result, Ok, Err}
use Rattle.tables.specs.declared.Refusal.{Refusal}
use Rattle.tables.specs.declared.Fault.{Fault}
use Rattle.tables.specs.declared.Fault.TheVariants.{Size, Link, Ramp, Start, Demand, Plan, Fixed, Sending, Receiving, Offer, Moved, Queue, Cost}
use Rattle.tables.specs.declared.Fault.TheVariants.{Bytes, Check, Kind, Number, Padding}

-- accepted, or refused with the refusal's number, its row and its node
pub data Answer : Type 0 where
  Accepted : Answer
  Refused : ℕ → ℕ → ℕ → Answer

-- ---- what the code answers

-- the refusals of document 01 by number
abbrev pub fault_number : Fault → ℕ
fault_number Size = 1
fault_number Link = 2
fault_number Ramp = 3
fault_number Start = 4
fault_number Demand = 5
fault_number Plan = 6
fault_number Fixed = 7
fault_number Sending = 8
fault_number Receiving = 9
fault_number Offer = 10
fault_number Moved = 11
fault_number Queue = 12
fault_number Cost = 13
fault_number Bytes = 14
fault_number Check = 15
fault_number Kind = 16
fault_number Number = 17
fault_number Padding = 18

-- the number of the fault that a test finds, 0 where it finds none
abbrev pub fault_of : {T : Type 0} → Result T Fault → ℕ
fault_of (Ok found) = 0
fault_of (Err fault) = fault_number fault

-- the answer that a result holds, whatever it gives where it accepts
abbrev pub answer_of : {T : Type 0} → Result T Refusal → Answer
answer_of (Ok found) = Accepted
answer_of (Err refusal) = Refused (fault_number refusal.fault) refusal.row refusal.node

-- ---- the parts of an answer

abbrev pub number_of : Answer → ℕ
number_of Accepted = 0
number_of (Refused number row node) = number

abbrev pub row_of : Answer → ℕ
row_of Accepted = 0
row_of (Refused number row node) = row

abbrev pub node_of : Answer → ℕ
node_of Accepted = 0
node_of (Refused number row node) = node

abbrev pub is_refused : Answer → Bool
is_refused Accepted = false
is_refused (Refused number row node) = true

-- the one number that the C host gets, 0 for accepted
abbrev pub host_number : Answer → ℕ
host_number answer = row_of answer * 65536 + node_of answer * 256 + number_of answer

-- an answer that this number tells whole
pub record Small (answer : Answer) : Type 0 where
  pub number : number_of answer ≤ 255
  pub row : row_of answer ≤ 65535
  pub node : node_of answer ≤ 255
  pub named : is_refused answer ≡ true → 1 ≤ number_of answer

-- how the host takes it apart: 0 is accepted, and the refusal's number, node and row are
pub record TakenApart (answer : Answer) : Type 0 where
  pub accepted : (host_number answer ≡ 0) ↔ (answer ≡ Accepted)
  pub number : host_number answer % 256 ≡ number_of answer
  pub node : host_number answer / 256 % 256 ≡ node_of answer
  pub row : host_number answer / 65536 ≡ row_of answer

-- the first answer where it refuses, else the second
abbrev pub or_else : Answer → Answer → Answer
or_else Accepted b = b
or_else (Refused number row node) b = Refused number row node

-- the answer that a fault's number gives at a place: number 0 is no fault
abbrev pub refusal : ℕ → ℕ → ℕ → Answer
refusal zero row node = Accepted
refusal (suc x) row node = Refused (suc x) row node

-- a fault's number, unless the test holds
abbrev pub unless : Bool → ℕ → ℕ
unless true x = 0
unless false x = x

-- refusal 1, unless N, K and all lengths are right
abbrev pub sized : Bool → Answer
sized fits = refusal (unless fits 1) 0 0

-- what a lent list holds at exit: the new words where the answer accepts, else those that were lent
abbrev pub left : Answer → List ℕ → List ℕ → List ℕ
left Accepted new lent = new
left (Refused number row node) new lent = lent
