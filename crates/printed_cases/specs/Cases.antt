-- What the program prints for records of B: two as document 01 has it, one of kind 7, two with demands of kind 5, and two with a corridor of kind 10.
use Rattle.std.specs.Prelude.{ℕ, List, [], ◌∷◌, ◌++◌, ◌≡◌}
use Rattle.simulate.specs.B.{corridor, demands, record_1, record_with}
use Rattle.payload.specs.File.{file_of}
use Rattle.demands.specs.Downstream.{demands_with, record_out}
use Rattle.demands.specs.Drop.{corridor_with}
use Rattle.demands.specs.Exits.{exit_record}
use Rattle.printed.specs.Text.{printed}

-- the files of a corridor, of demands and of a record of this kind, one after another
abbrev pub input_of : List ℕ → List ℕ → ℕ → List ℕ → List ℕ
input_of first second kind words = first ++ (second ++ file_of kind words)

-- B's own
abbrev pub input_with : List ℕ → List ℕ
input_with = input_of (file_of 1 corridor) (file_of 2 demands) 3

-- with a record of kind 7
abbrev pub input_exits : List ℕ → List ℕ
input_exits = input_of (file_of 1 corridor) (file_of 2 demands) 7

-- with demands of kind 5: 70 units may leave link 2, which sends 100 at full speed
abbrev pub input_behind : List ℕ → List ℕ
input_behind = input_of (file_of 1 corridor) (file_of 5 (demands_with 70)) 3

-- with a corridor of kind 10: link 2, with n = 200, discharges 80 above 190
abbrev pub input_dropped : List ℕ → List ℕ
input_dropped = input_of (file_of 10 (corridor_with 80 190)) (file_of 2 demands) 3

-- PLAN 1 3 and the cost, then 0 10 0 0 F, then 0 20 50 32768 F, then 0 30 0 with a limit and a letter
abbrev pub plan_text : List ℕ → List ℕ → List ℕ
plan_text total last =
    (80 ∷ 76 ∷ 65 ∷ 78 ∷ 32 ∷ 49 ∷ 32 ∷ 51 ∷ 32 ∷ [])
    ++ (total
    ++ ((10
    ∷ 48 ∷ 32 ∷ 49 ∷ 48 ∷ 32 ∷ 48 ∷ 32 ∷ 48 ∷ 32 ∷ 70 ∷ 10
    ∷ 48 ∷ 32 ∷ 50 ∷ 48 ∷ 32 ∷ 53 ∷ 48 ∷ 32 ∷ 51 ∷ 50 ∷ 55 ∷ 54 ∷ 56 ∷ 32 ∷ 70 ∷ 10
    ∷ 48 ∷ 32 ∷ 51 ∷ 48 ∷ 32 ∷ 48 ∷ 32 ∷ [])
    ++ (last ++ (10 ∷ []))))

-- 32768 F, and 13108 H
abbrev pub full_speed : List ℕ
full_speed = 51 ∷ 50 ∷ 55 ∷ 54 ∷ 56 ∷ 32 ∷ 70 ∷ []

abbrev pub held_speed : List ℕ
held_speed = 49 ∷ 51 ∷ 49 ∷ 48 ∷ 56 ∷ 32 ∷ 72 ∷ []

-- REFUSED, a number of one digit, 0 and a node of one digit
abbrev pub refused_text : ℕ → ℕ → List ℕ
refused_text number node = 82 ∷ 69 ∷ 70 ∷ 85 ∷ 83 ∷ 69 ∷ 68 ∷ 32 ∷ number ∷ 32 ∷ 48 ∷ 32 ∷ node ∷ 10 ∷ []

pub record Cases : Type 0 where
  -- 370; 9 0 1
  pub case_1 : printed (input_with record_1) ≡ plan_text (51 ∷ 55 ∷ 48 ∷ []) full_speed
  pub case_5 : printed (input_with (record_with 100 26 100 201 30 34 365)) ≡ refused_text 57 49
  -- 370
  pub case_1_with_exits : printed (input_exits (exit_record 80 40 20 120 200 30 20 370)) ≡ plan_text (51 ∷ 55 ∷ 48 ∷ []) full_speed
  -- 430; 9 0 2
  pub held_at_node_2 : printed (input_behind (record_out 40 260 430)) ≡ plan_text (52 ∷ 51 ∷ 48 ∷ []) held_speed
  pub refused_at_node_2 : printed (input_behind (record_out 71 229 399)) ≡ refused_text 57 50
  -- 390; 8 0 2
  pub full_with_a_drop : printed (input_dropped (record_out 80 220 390)) ≡ plan_text (51 ∷ 57 ∷ 48 ∷ []) full_speed
  pub refused_with_a_drop : printed (input_dropped (record_out 81 219 389)) ≡ refused_text 56 50
