-- The model's values as the code has them: a struct of typed counts, speeds and splits stands for the numbers in it.
use Rattle.road.specs.declared.Link as links
use Rattle.road.specs.declared.Ramp as ramps
use Rattle.road.specs.declared.NodeState as states
use Rattle.road.specs.declared.Junction as junctions
use Rattle.road.specs.declared.Flows as flows
use Rattle.road.specs.Corridor.{Link, Ramp, NodeState, Flows}
use Rattle.road.specs.Step.{Junction}

abbrev pub link_of : links.Link → Link
link_of link =
    record {
      capacity = link.capacity.0;
      full_speed = link.full_speed.0;
      wave_speed = link.wave_speed.0;
      jam = link.jam.0;
      dropped_capacity = link.dropped_capacity.0;
      drop_density = link.drop_density.0;
    }

abbrev pub ramp_of : ramps.Ramp → Ramp
ramp_of ramp = record { capacity = ramp.capacity.0; queue_limit = ramp.queue_limit.0 }

abbrev pub state_of : states.NodeState → NodeState
state_of state = record { vehicles = state.vehicles.0; queue = state.queue.0 }

abbrev pub junction_of : junctions.Junction → Junction
junction_of junction =
    record {
      link = link_of junction.link;
      ramp = ramp_of junction.ramp;
      state = state_of junction.state;
      split = junction.split.0;
      supply = junction.supply.0;
    }

abbrev pub flows_of : flows.Flows → Flows
flows_of flows = record { main = flows.main.0; ramp = flows.ramp.0 }
