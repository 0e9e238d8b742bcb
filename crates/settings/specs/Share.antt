-- The node's share of demand 3: which flows a record may have at a node, and which setting document 01 names for them.
use Rattle.std.specs.Prelude.{ℕ, ◌*◌, ◌/◌, ◌≤◌, min, ◌≡◌, ◌⊎◌, Option, Some, None}
use Rattle.road.specs.declared.Units.{Units}
use Rattle.road.specs.Corridor.{Flows}
use Rattle.road.specs.Step.{Junction, sending, flows_with, outflow}

-- what a proposal keeps: f ≤ min(n × V / 65,536, what the link may discharge); T(f) + r ≤ S; r ≤ min(l, C)
pub record Permitted (junction : Junction) (flows : Flows) : Type 0 where
  pub sent : flows.main ≤ sending junction.link junction.state.vehicles junction.link.full_speed
  pub fits : outflow flows junction.split ≤ junction.supply
  pub offered : flows.ramp ≤ min junction.state.queue junction.ramp.capacity

-- the rate gives exactly the flows at full speed
abbrev pub Gives : Junction → Flows → ℕ → Type 0
Gives junction flows rate = flows_with junction rate junction.link.full_speed ≡ flows

-- the smallest rate of 0..C that gives the flows at full speed
pub record SmallestRate (junction : Junction) (flows : Flows) (rate : ℕ) : Type 0 where
  pub gives : Gives junction flows rate
  pub within : rate ≤ junction.ramp.capacity
  pub least : (other : ℕ) → Gives junction flows other → rate ≤ other

-- no rate of 0..C gives the flows at full speed
abbrev pub NoRate : Junction → Flows → Type 0
NoRate junction flows = (rate : ℕ) → rate ≤ junction.ramp.capacity → Gives junction flows rate → ⊥

-- what the search finds: the smallest such rate, or none where there is none
abbrev pub Finds : Junction → Flows → Option Units → Type 0
Finds junction flows (Some rate) = SmallestRate junction flows rate.0
Finds junction flows None = NoRate junction flows

-- "Full: if some rate 0..C with limit V gives exactly f and r, the limit is V and the rate is the smallest such."
pub record IsFull (junction : Junction) (flows : Flows) (rate limit : ℕ) : Type 0 where
  pub posted : limit ≡ junction.link.full_speed
  pub smallest : SmallestRate junction flows rate

-- "Held: otherwise, the rate is r and the limit is the smallest v with n × v / 65,536 = f, which lies within 0..V"
pub record IsHeld (junction : Junction) (flows : Flows) (rate limit : ℕ) : Type 0 where
  pub none : NoRate junction flows
  pub ramp : rate ≡ flows.ramp
  pub sends : junction.state.vehicles * limit / 65536 ≡ flows.main
  pub least : (other : ℕ) → junction.state.vehicles * other / 65536 ≡ flows.main → limit ≤ other
  pub within : limit ≤ junction.link.full_speed

-- the setting that document 01 names
abbrev pub IsSetting : Junction → Flows → ℕ → ℕ → Type 0
IsSetting junction flows rate limit = IsFull junction flows rate limit ⊎ IsHeld junction flows rate limit
