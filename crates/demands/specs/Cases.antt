-- Cases 1 to 10 of B, worked through in document 01, read as definitions.
use Rattle.std.specs.Prelude.{ℕ, ◌+◌, List, [], ◌∷◌, ◌≡◌, length}
use Rattle.tables.specs.Answer.{Accepted, Refused}
use Rattle.road.specs.Step.{sending, through, offer, receiving, flows_with}
use Rattle.settings.specs.Setting.{setting_for}
use Rattle.settings.specs.Cases.{link, ramp, node_one, node_nine, flows, full, held}
use Rattle.payload.specs.Block.{check_word, body_word}
use Rattle.payload.specs.File.{payload_in}
use Rattle.simulate.specs.B.{corridor, demands, plan, record_with, record_1}
use Rattle.simulate.specs.Simulate.{simulate_answer, simulated}
use Rattle.convert.specs.Convert.{converted, convert_answer}

-- the plan with this rate and limit at node 1: rate 0 at node 0, full speed on link 2
abbrev pub plan_with : ℕ → ℕ → List ℕ
plan_with rate limit = 0 ∷ 0 ∷ rate ∷ limit ∷ 0 ∷ 32768 ∷ []

-- B's corridor and a record of it with n₁ and n₂ vehicles at the start
abbrev pub corridor_from : ℕ → ℕ → List ℕ
corridor_from first second =
    2
    ∷ 10 ∷ 0 ∷ 0 ∷ 0 ∷ 0 ∷ 100 ∷ 1000 ∷ 0 ∷ 0
    ∷ 20 ∷ 100 ∷ 32768 ∷ 32768 ∷ 400 ∷ 60 ∷ 200 ∷ first ∷ 50
    ∷ 30 ∷ 100 ∷ 32768 ∷ 32768 ∷ 400 ∷ 0 ∷ 0 ∷ second ∷ 0
    ∷ []

-- case 7: n1 = 0, f1 = 0, r1 = 50
abbrev pub record_7 : List ℕ
record_7 = 0 ∷ 0 ∷ 0 ∷ 0 ∷ 0 ∷ 50 ∷ 0 ∷ 50 ∷ 200 ∷ 0 ∷ 100 ∷ 0 ∷ 0 ∷ 30 ∷ 0 ∷ 0 ∷ 0 ∷ 10 ∷ 0 ∷ 0 ∷ 150 ∷ 0 ∷ 0 ∷ 0 ∷ 190 ∷ 0 ∷ []

-- case 8: n2 = 400, f1 = r1 = 0
abbrev pub record_8 : List ℕ
record_8 = 0 ∷ 0 ∷ 0 ∷ 0 ∷ 200 ∷ 50 ∷ 0 ∷ 0 ∷ 400 ∷ 0 ∷ 100 ∷ 0 ∷ 0 ∷ 30 ∷ 0 ∷ 0 ∷ 200 ∷ 60 ∷ 0 ∷ 0 ∷ 300 ∷ 0 ∷ 0 ∷ 0 ∷ 590 ∷ 0 ∷ []

-- the converter accepts the record of a corridor, and this is its plan
pub record Converts (corridor words plan : List ℕ) : Type 0 where
  pub accepted : convert_answer corridor demands words 6 ≡ Accepted
  pub plans : converted corridor demands words ≡ plan

pub record Cases : Type 0 where
  -- rates 100, 60, full limits: D = 100, R = 125, S = 100,
  pub case_1_sending : sending link 200 32768 ≡ 100
  pub case_1_total : through 100 16384 + offer ramp 50 60 ≡ 125
  pub case_1_supply : receiving link 200 ≡ 100
  -- f1 = 80, r1 = 40, f2 = 100; next n 120, 200, l 30, 20; cost 370
  pub case_1_accepted : simulate_answer corridor demands plan (length record_1) ≡ Accepted
  pub case_1 : simulated 4 corridor demands plan ≡ record_1
  -- that record: node 1 full, rate 50 (49 gives r = 39)
  pub case_2 : Converts corridor record_1 (plan_with 50 32768)
  pub case_2_below : (flows_with (node_one 200 200) 49 32768).ramp ≡ 39
  -- f1 = 60, r1 = 50: held, rate 50, limit 19,661 (19,660 sends 59)
  pub case_3 : Converts corridor (record_with 60 50 140 195 30 10 375) (plan_with 50 19661)
  pub case_3_below : sending link 200 19660 ≡ 59
  -- f1 = 100, r1 = 25: full, rate 25
  pub case_4 : Converts corridor (record_with 100 25 100 200 30 35 365) (plan_with 25 32768)
  -- f1 = 100, r1 = 26: refusal 9
  pub case_5 : convert_answer corridor demands (record_with 100 26 100 201 30 34 365) 6 ≡ Refused 9 0 1
  -- f1 = 0, r1 = 50: held, limit 0
  pub case_6 : Converts corridor (record_with 0 50 200 150 30 10 390) (plan_with 50 0)
  -- n1 = 0, f1 = 0, r1 = 50: full
  pub case_7 : Converts (corridor_from 0 200) record_7 (plan_with 50 32768)
  -- n2 = 400, f1 = r1 = 0: full, rate 0
  pub case_8 : Converts (corridor_from 200 400) record_8 (plan_with 0 32768)
  -- n = 65,536, V = F = 65,536, f = 1, b = 0, S = 2, r = 0, l = 0: held, limit 1; with S = 1 it is full, rate 0
  pub case_9 : setting_for (node_nine 2) (flows 1 0) ≡ held 0 1
  pub case_9_full : setting_for (node_nine 1) (flows 1 0) ≡ full 0
  -- b = 32,768: T(1) = 1; an otherwise zero block of kind 1, number 1 has check 4
  pub case_10 : through 1 32768 ≡ 1
  pub case_10_check : check_word (body_word 1 1 (payload_in [] 1)) ≡ 4
