-- The search for a rate: some rate 0..C with limit V gives exactly f and r, or none does.
use Rattle.std.specs.Prelude.{ℕ, Bool, cond, ◌&&◌, leb, eqb, Option, Some, None}
use Rattle.tables.specs.declared.Halved.{Halved}
use Rattle.tables.specs.Least.{least}
use Rattle.tables.specs.Halving.{halving}
use Rattle.road.specs.declared.Units.{Units}
use Rattle.road.specs.Corridor.{Flows}
use Rattle.road.specs.Step.{Junction, flows_with}
use Rattle.settings.specs.declared.Search.{Search}

-- rules 1 to 5 at full speed
unfoldable pub full_flows : Junction → ℕ → Flows
full_flows junction rate = flows_with junction rate junction.link.full_speed

-- the rate gives exactly f and r at full speed
unfoldable pub gives : Junction → Flows → ℕ → Bool
gives junction wanted rate =
    eqb (full_flows junction rate).main wanted.main && eqb (full_flows junction rate).ramp wanted.ramp

-- the rate is high enough: its mainline flow is not above f and its ramp flow not below r
unfoldable pub reaches : Junction → Flows → ℕ → Bool
reaches junction wanted rate =
    leb (full_flows junction rate).main wanted.main && leb wanted.ramp (full_flows junction rate).ramp

-- request 02: the rates 0 to C halved
unfoldable pub candidate : Junction → Flows → Halved
candidate junction wanted = halving (reaches junction wanted) junction.ramp.capacity

-- "at last it tries the one left": where that gives f and r it is the rate found, and otherwise none is found
unfoldable pub search : Junction → Flows → Search
search junction wanted =
    record {
      found = cond (gives junction wanted (candidate junction wanted).rate) (Some (record { 0 = (candidate junction wanted).rate })) None;
      tries = (candidate junction wanted).tries;
    }

-- the smallest of 0..c that passes, if one does
abbrev pub smallest : (ℕ → Bool) → ℕ → Option Units
smallest passes c = cond (passes (least passes c)) (Some (record { 0 = least passes c })) None

-- the smallest rate of 0..C that gives f and r at full speed
unfoldable pub rate_for : Junction → Flows → Option Units
rate_for junction wanted = smallest (gives junction wanted) junction.ramp.capacity
