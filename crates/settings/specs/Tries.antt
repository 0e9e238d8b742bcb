-- What request 02 promises of a search: what it finds, and how many rates it tries.
use Rattle.std.specs.Prelude.{◌+◌, ◌≤◌, ◌<◌, ◌≡◌}
use Rattle.tables.specs.Halving.{ceil_log}
use Rattle.road.specs.Corridor.{Flows}
use Rattle.road.specs.Step.{Junction}
use Rattle.settings.specs.Rate.{full_flows, search, rate_for}

-- whatever flows are wanted
pub record Promised (junction : Junction) (wanted : Flows) : Type 0 where
  -- "The rate found, and the finding that there is none, are those of document 01."
  pub found : (search junction wanted).found ≡ rate_for junction wanted
  -- 1 + log2 (C + 1), rounded up, for every C
  pub log : (search junction wanted).tries ≤ 1 + ceil_log (junction.ramp.capacity + 1)
  -- "the number of tries, at most 18"
  pub most : junction.ramp.capacity ≤ 65536 → (search junction wanted).tries ≤ 18
  -- 18 only at C = 65,536
  pub fewer : junction.ramp.capacity < 65536 → (search junction wanted).tries ≤ 17
  -- the one left counts, where there was no other too
  pub one : junction.ramp.capacity ≡ 0 → (search junction wanted).tries ≡ 1

-- so many are tried where the flows at rate 0 are wanted, whatever the node
pub record Reached (junction : Junction) : Type 0 where
  pub log : (search junction (full_flows junction 0)).tries ≡ 1 + ceil_log (junction.ramp.capacity + 1)
  pub eighteen : junction.ramp.capacity ≡ 65536 → (search junction (full_flows junction 0)).tries ≡ 18
