-- Request 01 on corridor B, by computation: 70 units may leave link 2, which sends 100.
use Rattle.std.specs.Prelude.{ℕ, List, [], ◌∷◌, ◌≡◌}
use Rattle.tables.specs.Answer.{Accepted, Refused}
use Rattle.list_scans.specs.Refusals.{limits}
use Rattle.simulate.specs.B.{corridor, demands, plan, record_1}
use Rattle.simulate.specs.Simulate.{simulate_answer, simulated}
use Rattle.convert.specs.Convert.{converted, convert_answer}

-- B's demands in kind 5, with this word
abbrev pub demands_with : ℕ → List ℕ
demands_with word = 1 ∷ 30 ∷ 0 ∷ 10 ∷ 16384 ∷ 0 ∷ 0 ∷ word ∷ []

-- case 1's record with f of node 2 in step 0, and this n of link 2 and this cost after it
abbrev pub record_out : ℕ → ℕ → ℕ → List ℕ
record_out main second total =
    0 ∷ 0 ∷ 0 ∷ 0
    ∷ 200 ∷ 50 ∷ 80 ∷ 40
    ∷ 200 ∷ 0 ∷ main ∷ 0
    ∷ 0 ∷ 30 ∷ 0 ∷ 0
    ∷ 120 ∷ 20 ∷ 0 ∷ 0
    ∷ second ∷ 0 ∷ 0 ∷ 0
    ∷ total ∷ 0
    ∷ []

-- node 1 full at rate 50, and this limit on link 2
abbrev pub plan_out : ℕ → List ℕ
plan_out limit = 0 ∷ 0 ∷ 50 ∷ 32768 ∷ 0 ∷ limit ∷ []

-- demands of two steps with Q of node 0 in step 1, and the words of both steps
abbrev pub two_steps : ℕ → ℕ → ℕ → List ℕ
two_steps arrivals first second = 2 ∷ 30 ∷ 0 ∷ 10 ∷ 0 ∷ 0 ∷ 0 ∷ arrivals ∷ 0 ∷ 10 ∷ 0 ∷ 0 ∷ 0 ∷ first ∷ second ∷ []

pub record DownstreamCases : Type 0 where
  -- rates 100, 60, full limits: f2 = min(100, 70); next n2 = 200 + 100 − 70; cost 400
  pub simulates : (simulate_answer corridor (demands_with 70) plan 26 ≡ Accepted) × (simulated 4 corridor (demands_with 70) plan ≡ record_out 70 230 400)
  -- that record: link 2 at full speed
  pub full : (convert_answer corridor (demands_with 70) (record_out 70 230 400) 6 ≡ Accepted) × (converted corridor (demands_with 70) (record_out 70 230 400) ≡ plan_out 32768)
  -- f2 = 40: held, limit 13,108
  pub held : (convert_answer corridor (demands_with 70) (record_out 40 260 430) 6 ≡ Accepted) × (converted corridor (demands_with 70) (record_out 40 260 430) ≡ plan_out 13108)
  -- f2 = 71: refusal 9 at node 2
  pub too_much : convert_answer corridor (demands_with 70) (record_out 71 229 399) 6 ≡ Refused 9 0 2
  -- and with free traffic past link 2: held, limit 23,266
  pub free : (convert_answer corridor demands (record_out 71 229 399) 6 ≡ Accepted) × (converted corridor demands (record_out 71 229 399) ≡ plan_out 23266)
  -- 0 lets nothing out, and 65,536 is case 1
  pub closed : simulated 4 corridor (demands_with 0) plan ≡ record_out 0 300 470
  pub unhindered : simulated 4 corridor (demands_with 65536) plan ≡ record_1
  -- a word out of range is refusal 5 at its step and node 2; that of step 0 comes before Q of step 1, which comes before that of step 1
  pub out_of_range : limits corridor (demands_with 65537) ≡ Refused 5 0 2
  pub first_word : limits corridor (two_steps 65537 65537 0) ≡ Refused 5 0 2
  pub then_arrivals : limits corridor (two_steps 65537 65536 65537) ≡ Refused 5 1 0
  pub last_word : limits corridor (two_steps 65536 65536 65537) ≡ Refused 5 1 2
  -- a list longer than kind 5 is neither kind
  pub one_too_long : limits corridor (1 ∷ 30 ∷ 0 ∷ 10 ∷ 16384 ∷ 0 ∷ 0 ∷ 70 ∷ 70 ∷ []) ≡ Refused 1 0 0
