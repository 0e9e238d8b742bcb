-- One node in one step of a record, as the code has it.
use Rattle.std.specs.Prelude.{ℕ, ◌≤◌, List, ◌≡◌}
use Rattle.road.specs.Run.{junction}
use Rattle.road.specs.Values.{junction_of, flows_of}
use Rattle.lists.specs.Words.{road_of, trace_of}
use Rattle.search.specs.declared.inner.Place.{Place}

-- it is the junction of that node in the record's state, with the record's flows
pub record PlaceAt (width : ℕ) (corridor demands words : List ℕ) (step node : ℕ) (here : Place) : Type 0 where
  pub junction : junction_of here.junction ≡ junction (road_of corridor demands) step ((trace_of width (road_of corridor demands) words).state step) node
  pub flows : flows_of here.flows ≡ (trace_of width (road_of corridor demands) words).flows step node
  pub split : here.junction.split.0 ≤ 65536
