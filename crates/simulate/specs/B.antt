-- B of document 01 as word lists, with the plan and the record of case 1.
use Rattle.std.specs.Prelude.{ℕ, List, [], ◌∷◌, ◌≡◌, length}
use Rattle.tables.specs.Answer.{Accepted}
use Rattle.simulate.specs.Simulate.{simulate_answer, simulated}

-- N; by node: identifier, F, V, W, J, C, L, start n, start l
abbrev pub corridor : List ℕ
corridor =
    2
    ∷ 10 ∷ 0 ∷ 0 ∷ 0 ∷ 0 ∷ 100 ∷ 1000 ∷ 0 ∷ 0
    ∷ 20 ∷ 100 ∷ 32768 ∷ 32768 ∷ 400 ∷ 60 ∷ 200 ∷ 200 ∷ 50
    ∷ 30 ∷ 100 ∷ 32768 ∷ 32768 ∷ 400 ∷ 0 ∷ 0 ∷ 200 ∷ 0
    ∷ []

-- K; by step and node: Q, b
abbrev pub demands : List ℕ
demands = 1 ∷ 30 ∷ 0 ∷ 10 ∷ 16384 ∷ 0 ∷ 0 ∷ []

-- rates 100 and 60, full limits
abbrev pub plan : List ℕ
plan = 100 ∷ 0 ∷ 60 ∷ 32768 ∷ 0 ∷ 32768 ∷ []

-- a record of B whose node 1 has flows f and r in step 0, and these n of links 1 and 2, these l of ramps 0 and 1 and this cost after it
abbrev pub record_with : ℕ → ℕ → ℕ → ℕ → ℕ → ℕ → ℕ → List ℕ
record_with main ramp first second entry queue total =
    0 ∷ 0 ∷ 0 ∷ 0
    ∷ 200 ∷ 50 ∷ main ∷ ramp
    ∷ 200 ∷ 0 ∷ 100 ∷ 0
    ∷ 0 ∷ entry ∷ 0 ∷ 0
    ∷ first ∷ queue ∷ 0 ∷ 0
    ∷ second ∷ 0 ∷ 0 ∷ 0
    ∷ total ∷ 0
    ∷ []

-- f1 = 80, r1 = 40, f2 = 100; next n 120, 200, l 30, 20; cost 370
abbrev pub record_1 : List ℕ
record_1 = record_with 80 40 120 200 30 20 370

pub record Case1 : Type 0 where
  pub accepted : simulate_answer corridor demands plan (length record_1) ≡ Accepted
  pub simulates : simulated 4 corridor demands plan ≡ record_1
