-- B of document 01 at its node 1: what the worked cases say of one node.
use Rattle.std.specs.Prelude.{ℕ, ◌+◌, ◌*◌, ◌/◌, ◌≡◌}
use Rattle.road.specs.Corridor.{Link, Ramp, Flows}
use Rattle.road.specs.Step.{Junction, sending, through, receiving, flows_with}
use Rattle.settings.specs.declared.Setting.{Setting}
use Rattle.settings.specs.declared.Setting.TheVariants.{Full, Held}
use Rattle.settings.specs.Setting.{setting_for}

-- links 1 and 2
abbrev pub link : Link
link = record { capacity = 100; full_speed = 32768; wave_speed = 32768; jam = 400; dropped_capacity = 100; drop_density = 400 }

-- ramp 1
abbrev pub ramp : Ramp
ramp = record { capacity = 60; queue_limit = 200 }

-- node 1 with n₁ and n₂ vehicles on links 1 and 2
abbrev pub node_one : ℕ → ℕ → Junction
node_one before after =
    record {
      link = link;
      ramp = ramp;
      state = record { vehicles = before; queue = 50 };
      split = 16384;
      supply = receiving link after;
    }

-- the node of case 9, with its supply S
abbrev pub node_nine : ℕ → Junction
node_nine supply =
    record {
      link = record { capacity = 65536; full_speed = 65536; wave_speed = 32768; jam = 65536; dropped_capacity = 65536; drop_density = 65536 };
      ramp = ramp;
      state = record { vehicles = 65536; queue = 0 };
      split = 0;
      supply = supply;
    }

-- f and r
abbrev pub flows : ℕ → ℕ → Flows
flows main ramp = record { main = main; ramp = ramp }

abbrev pub full : ℕ → Setting
full rate = Full (record { 0 = rate })

abbrev pub held : ℕ → ℕ → Setting
held rate limit = Held (record { 0 = rate }) (record { 0 = limit })

pub record Cases : Type 0 where
  pub case_1_sending : sending link 200 32768 ≡ 100
  pub case_1_total : through 100 16384 + 50 ≡ 125
  pub case_1_supply : receiving link 200 ≡ 100
  pub case_1 : flows_with (node_one 200 200) 60 32768 ≡ flows 80 40
  pub case_2 : setting_for (node_one 200 200) (flows 80 40) ≡ full 50
  pub case_2_below : (flows_with (node_one 200 200) 49 32768).ramp ≡ 39
  pub case_3 : setting_for (node_one 200 200) (flows 60 50) ≡ held 50 19661
  pub case_3_below : 200 * 19660 / 65536 ≡ 59
  pub case_4 : setting_for (node_one 200 200) (flows 100 25) ≡ full 25
  pub case_6 : setting_for (node_one 200 200) (flows 0 50) ≡ held 50 0
  pub case_7 : setting_for (node_one 0 200) (flows 0 50) ≡ full 50
  pub case_8 : setting_for (node_one 200 400) (flows 0 0) ≡ full 0
  pub case_9 : setting_for (node_nine 2) (flows 1 0) ≡ held 0 1
  pub case_9_full : setting_for (node_nine 1) (flows 1 0) ≡ full 0
  pub case_10 : through 1 32768 ≡ 1
