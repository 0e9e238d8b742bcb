-- Request 07: what the drop does and does not change, and worked cases by computation.
use Rattle.std.specs.Prelude.{ℕ, ◌*◌, ◌/◌, ◌≤◌, ◌<◌, min, List, [], ◌∷◌, ◌≡◌}
use Rattle.tables.specs.Answer.{Accepted, Refused}
use Rattle.road.specs.Corridor.{Link}
use Rattle.road.specs.Step.{sending, receiving}
use Rattle.list_scans.specs.Refusals.{limits}
use Rattle.simulate.specs.B.{corridor, demands, plan, record_1}
use Rattle.simulate.specs.Simulate.{simulate_answer, simulated}
use Rattle.convert.specs.Convert.{converted, convert_answer}
use Rattle.demands.specs.Downstream.{demands_with, record_out, plan_out}

-- a link with this dropped capacity and this drop density
abbrev pub with_drop : ℕ → ℕ → Link → Link
with_drop capacity density link =
    record {
      capacity = link.capacity;
      full_speed = link.full_speed;
      wave_speed = link.wave_speed;
      jam = link.jam;
      dropped_capacity = capacity;
      drop_density = density;
    }

-- of every link, whatever its numbers
pub record DropLaws : Type 0 where
  -- sending is monotone in the limit
  pub rises : (link : Link) (vehicles limit higher : ℕ) → limit ≤ higher → sending link vehicles limit ≤ sending link vehicles higher
  -- a link within its drop density sends as without a drop: D = min(n × v / 65,536, F)
  pub within : (link : Link) (vehicles limit : ℕ) → vehicles ≤ link.drop_density → sending link vehicles limit ≡ min (vehicles * limit / 65536) link.capacity
  -- above it, no more than its dropped capacity: D = min(n × v / 65,536, dropped capacity)
  pub above : (link : Link) (vehicles limit : ℕ) → link.drop_density < vehicles → sending link vehicles limit ≡ min (vehicles * limit / 65536) link.dropped_capacity
  -- with F for its dropped capacity it sends as without a drop, whatever the density
  pub without : (link : Link) (density vehicles limit : ℕ) → sending (with_drop link.capacity density link) vehicles limit ≡ min (vehicles * limit / 65536) link.capacity
  -- what it receives, the drop does not change
  pub receives : (link : Link) (capacity density vehicles : ℕ) → receiving (with_drop capacity density link) vehicles ≡ receiving link vehicles

-- ---- B in kind 10

-- with these dropped capacities and drop densities at nodes 0, 1 and 2
abbrev pub corridor_drops : ℕ → ℕ → ℕ → ℕ → ℕ → ℕ → List ℕ
corridor_drops capacity0 density0 capacity1 density1 capacity2 density2 =
    2
    ∷ 10 ∷ 0 ∷ 0 ∷ 0 ∷ 0 ∷ 100 ∷ 1000 ∷ 0 ∷ 0 ∷ capacity0 ∷ density0
    ∷ 20 ∷ 100 ∷ 32768 ∷ 32768 ∷ 400 ∷ 60 ∷ 200 ∷ 200 ∷ 50 ∷ capacity1 ∷ density1
    ∷ 30 ∷ 100 ∷ 32768 ∷ 32768 ∷ 400 ∷ 0 ∷ 0 ∷ 200 ∷ 0 ∷ capacity2 ∷ density2
    ∷ []

-- link 1 does not drop, and link 2 drops so
abbrev pub corridor_with : ℕ → ℕ → List ℕ
corridor_with = corridor_drops 0 0 100 400

-- ---- the same demand with and without a drop: one link, Q of node 0 is 85 in each step, n is 240 and l 85 at the start

abbrev pub one_plain : List ℕ
one_plain = 1 ∷ 10 ∷ 0 ∷ 0 ∷ 0 ∷ 0 ∷ 100 ∷ 1000 ∷ 0 ∷ 85 ∷ 20 ∷ 100 ∷ 32768 ∷ 32768 ∷ 400 ∷ 0 ∷ 0 ∷ 240 ∷ 0 ∷ []

-- 80 is discharged above n = 200
abbrev pub one_dropped : List ℕ
one_dropped = 1 ∷ 10 ∷ 0 ∷ 0 ∷ 0 ∷ 0 ∷ 100 ∷ 1000 ∷ 0 ∷ 85 ∷ 0 ∷ 0 ∷ 20 ∷ 100 ∷ 32768 ∷ 32768 ∷ 400 ∷ 0 ∷ 0 ∷ 240 ∷ 0 ∷ 80 ∷ 200 ∷ []

abbrev pub one_demands : List ℕ
one_demands = 6 ∷ 85 ∷ 0 ∷ 0 ∷ 0 ∷ 85 ∷ 0 ∷ 0 ∷ 0 ∷ 85 ∷ 0 ∷ 0 ∷ 0 ∷ 85 ∷ 0 ∷ 0 ∷ 0 ∷ 85 ∷ 0 ∷ 0 ∷ 0 ∷ 85 ∷ 0 ∷ 0 ∷ 0 ∷ []

-- rate C, full speed
abbrev pub one_plan : List ℕ
one_plan = 100 ∷ 0 ∷ 0 ∷ 32768 ∷ 100 ∷ 0 ∷ 0 ∷ 32768 ∷ 100 ∷ 0 ∷ 0 ∷ 32768 ∷ 100 ∷ 0 ∷ 0 ∷ 32768 ∷ 100 ∷ 0 ∷ 0 ∷ 32768 ∷ 100 ∷ 0 ∷ 0 ∷ 32768 ∷ []

-- link 1 drains to where it carries what arrives, and the queue is what one step brings
abbrev pub one_recovers : List ℕ
one_recovers =
    0 ∷ 85 ∷ 0 ∷ 80 ∷ 240 ∷ 0 ∷ 100 ∷ 0
    ∷ 0 ∷ 90 ∷ 0 ∷ 90 ∷ 220 ∷ 0 ∷ 100 ∷ 0
    ∷ 0 ∷ 85 ∷ 0 ∷ 85 ∷ 210 ∷ 0 ∷ 100 ∷ 0
    ∷ 0 ∷ 85 ∷ 0 ∷ 85 ∷ 195 ∷ 0 ∷ 97 ∷ 0
    ∷ 0 ∷ 85 ∷ 0 ∷ 85 ∷ 183 ∷ 0 ∷ 91 ∷ 0
    ∷ 0 ∷ 85 ∷ 0 ∷ 85 ∷ 177 ∷ 0 ∷ 88 ∷ 0
    ∷ 0 ∷ 85 ∷ 0 ∷ 0 ∷ 174 ∷ 0 ∷ 0 ∷ 0
    ∷ 1674 ∷ 0
    ∷ []

-- n of link 1 stays 240, and the queue grows by 5 in each step
abbrev pub one_congested : List ℕ
one_congested =
    0 ∷ 85 ∷ 0 ∷ 80 ∷ 240 ∷ 0 ∷ 80 ∷ 0
    ∷ 0 ∷ 90 ∷ 0 ∷ 80 ∷ 240 ∷ 0 ∷ 80 ∷ 0
    ∷ 0 ∷ 95 ∷ 0 ∷ 80 ∷ 240 ∷ 0 ∷ 80 ∷ 0
    ∷ 0 ∷ 100 ∷ 0 ∷ 80 ∷ 240 ∷ 0 ∷ 80 ∷ 0
    ∷ 0 ∷ 105 ∷ 0 ∷ 80 ∷ 240 ∷ 0 ∷ 80 ∷ 0
    ∷ 0 ∷ 110 ∷ 0 ∷ 80 ∷ 240 ∷ 0 ∷ 80 ∷ 0
    ∷ 0 ∷ 115 ∷ 0 ∷ 0 ∷ 240 ∷ 0 ∷ 0 ∷ 0
    ∷ 2055 ∷ 0
    ∷ []

pub record DropCases : Type 0 where
  -- rates 100, 60, full limits, 80 discharged above n = 190: f2 = 80; next n2 = 200 + 100 − 80; cost 390
  pub simulates : (simulate_answer (corridor_with 80 190) demands plan 26 ≡ Accepted) × (simulated 4 (corridor_with 80 190) demands plan ≡ record_out 80 220 390)
  -- that record: link 2 at full speed; without the drop it is held, limit 26,215
  pub full : (convert_answer (corridor_with 80 190) demands (record_out 80 220 390) 6 ≡ Accepted) × (converted (corridor_with 80 190) demands (record_out 80 220 390) ≡ plan_out 32768)
  pub held_without : (convert_answer corridor demands (record_out 80 220 390) 6 ≡ Accepted) × (converted corridor demands (record_out 80 220 390) ≡ plan_out 26215)
  -- f2 = 40: held, limit 13,108
  pub held : (convert_answer (corridor_with 80 190) demands (record_out 40 260 430) 6 ≡ Accepted) × (converted (corridor_with 80 190) demands (record_out 40 260 430) ≡ plan_out 13108)
  -- f2 = 81: refusal 8 at node 2
  pub too_much : convert_answer (corridor_with 80 190) demands (record_out 81 219 389) 6 ≡ Refused 8 0 2
  -- n2 = 200 is above a drop density of 199, and at one of 200 is case 1
  pub above : simulated 4 (corridor_with 80 199) demands plan ≡ record_out 80 220 390
  pub at : simulated 4 (corridor_with 80 200) demands plan ≡ record_1
  -- a dropped capacity of 0 lets nothing out, and one of F is case 1 at any density
  pub closed : simulated 4 (corridor_with 0 190) demands plan ≡ record_out 0 300 470
  pub unhindered : simulated 4 (corridor_with 100 0) demands plan ≡ record_1
  -- request 01 with it: the lesser of 80 and the flow that may leave link 2
  pub less_beyond : simulated 4 (corridor_with 80 190) (demands_with 70) plan ≡ record_out 70 230 400
  pub more_beyond : simulated 4 (corridor_with 80 190) (demands_with 90) plan ≡ record_out 80 220 390
  -- refusal 2 at its node: dropped capacity above F, drop density above J, and either of node 0
  pub capacity_high : limits (corridor_with 101 190) demands ≡ Refused 2 0 2
  pub density_high : limits (corridor_with 80 401) demands ≡ Refused 2 0 2
  pub both_highest : limits (corridor_with 100 400) demands ≡ Accepted
  pub entry_capacity : limits (corridor_drops 1 0 100 400 80 190) demands ≡ Refused 2 0 0
  pub entry_density : limits (corridor_drops 0 1 100 400 80 190) demands ≡ Refused 2 0 0
  pub at_first_node : limits (corridor_drops 0 0 101 400 80 190) demands ≡ Refused 2 0 1
  -- the same demand recovers without the drop, and stays congested with it
  pub recovers : (simulate_answer one_plain one_demands one_plan 58 ≡ Accepted) × (simulated 4 one_plain one_demands one_plan ≡ one_recovers)
  pub congested : (simulate_answer one_dropped one_demands one_plan 58 ≡ Accepted) × (simulated 4 one_dropped one_demands one_plan ≡ one_congested)
