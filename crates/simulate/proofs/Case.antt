-- Case 1 of B holds by computation.
use mathlib.Core.Path.{refl}
use Rattle.tables.specs.First.{first}
use Rattle.tables.specs.Grid.{cell, grid}
use Rattle.tables.specs.Least.{least_from}
use Rattle.tables.specs.Sum.{sum}
use Rattle.tables.specs.Tabulate.{tabulate}
use Rattle.road.specs.Step.{discharge, sending, exit, through, offer, receiving, passed, merge, flows_with, outflow, moved}
use Rattle.road.specs.Run.{supply, junction, inflow, next, plan_flows, state_at, no_flow, run, cost}
use Rattle.lists.specs.Words.{links_of, by_kind, node_at, steps_of, road_of, plan_of, node_word, trace_words, record_words}
use Rattle.faults.specs.Lists.{link_fault, ramp_fault, start_fault, demand_fault, plan_fault}
use Rattle.lengths.specs.Lengths.{corridor_sized, demands_sized, record_sized, sizes}
use Rattle.list_scans.specs.Refusals.{fresh, link_refusal, ramp_refusal, start_refusal, demand_refusal, ranges, bounds}
use Rattle.simulate.specs.Simulate.{simulate_sizes, simulate_answer, simulated}
use Rattle.simulate.specs.B.{Case1}

pub case_1 : Case1
unfolding first cell grid least_from sum tabulate discharge sending exit through offer receiving passed merge flows_with outflow moved supply junction inflow next plan_flows state_at no_flow run cost links_of by_kind node_at steps_of road_of plan_of node_word trace_words record_words corridor_sized demands_sized record_sized sizes link_fault fresh ramp_fault start_fault demand_fault plan_fault link_refusal ramp_refusal start_refusal demand_refusal ranges bounds simulate_sizes simulate_answer simulated
case_1 = record { accepted = refl; simulates = refl }
