-- The worked cases of requests 01, 02, 04 and 07: each holds by computation.
use mathlib.Core.Path.{refl}
use Rattle.tables.specs.First.{first}
use Rattle.tables.specs.Grid.{cell, grid}
use Rattle.tables.specs.Halving.{halved_in, halving}
use Rattle.tables.specs.Least.{least_from}
use Rattle.tables.specs.Sum.{sum}
use Rattle.tables.specs.Tabulate.{tabulate}
use Rattle.road.specs.Step.{discharge, sending, exit, through, offer, receiving, passed, merge, flows_with, outflow, moved}
use Rattle.road.specs.Run.{supply, junction, inflow, next, plan_flows, state_at, no_flow, run, cost}
use Rattle.settings.specs.Rate.{full_flows, gives, reaches, candidate, search, rate_for}
use Rattle.settings.specs.Setting.{held_limit, setting_for}
use Rattle.lists.specs.Words.{links_of, by_kind, node_at, steps_of, road_of, plan_of, plan_word, plan_words, node_word, trace_of, exit_said, trace_words, record_words, record_width}
use Rattle.faults.specs.Lists.{link_fault, ramp_fault, start_fault, demand_fault, plan_fault}
use Rattle.lengths.specs.Lengths.{corridor_sized, demands_sized, record_sized, sizes}
use Rattle.list_scans.specs.Refusals.{fresh, link_refusal, ramp_refusal, start_refusal, demand_refusal, ranges, bounds, limits}
use Rattle.record_faults.specs.Records.{fixed_fault, next_fault, step_fault, total_fault}
use Rattle.simulate.specs.Simulate.{simulate_sizes, simulate_answer, simulated}
use Rattle.convert.specs.Refusals.{cost_fault, judged}
use Rattle.convert.specs.Convert.{setting_at, plan_for, converted_by, check_answer, convert_answer}
use Rattle.search.specs.Search.{search_at, search_words, searched, place_answer}
use Rattle.demands.specs.Downstream.{DownstreamCases}
use Rattle.demands.specs.Drop.{DropCases}
use Rattle.demands.specs.Exits.{ExitCases}
use Rattle.demands.specs.Search.{SearchCases}

all : DownstreamCases × DropCases × ExitCases × SearchCases
unfolding first cell grid least_from sum tabulate discharge sending exit through offer receiving passed merge flows_with outflow moved supply junction inflow next cost full_flows gives rate_for held_limit setting_for links_of by_kind node_at steps_of road_of plan_of plan_word plan_words trace_of exit_said record_width sizes link_fault fresh ramp_fault start_fault demand_fault link_refusal ramp_refusal start_refusal demand_refusal ranges fixed_fault next_fault step_fault total_fault cost_fault judged setting_at plan_for converted_by check_answer convert_answer run plan_flows state_at no_flow node_word trace_words record_words corridor_sized demands_sized record_sized plan_fault bounds limits simulate_sizes simulate_answer simulated halved_in halving reaches candidate search search_at search_words searched place_answer
all = (
  record {
    simulates = (refl, refl);
    full = (refl, refl);
    held = (refl, refl);
    too_much = refl;
    free = (refl, refl);
    closed = refl;
    unhindered = refl;
    out_of_range = refl;
    first_word = refl;
    then_arrivals = refl;
    last_word = refl;
    one_too_long = refl;
  },
  record {
    simulates = (refl, refl);
    full = (refl, refl);
    held_without = (refl, refl);
    held = (refl, refl);
    too_much = refl;
    above = refl;
    at = refl;
    closed = refl;
    unhindered = refl;
    less_beyond = refl;
    more_beyond = refl;
    capacity_high = refl;
    density_high = refl;
    both_highest = refl;
    entry_capacity = refl;
    entry_density = refl;
    at_first_node = refl;
    recovers = (refl, refl);
    congested = (refl, refl);
  },
  record {
    simulates = (refl, refl);
    converts = record { accepted = refl; plans = refl };
    more = refl;
    less = refl;
    rounds_down = refl;
    not_up = refl;
    after_9 = refl;
    after_10 = refl;
    before_12 = refl;
    then_12 = refl;
    entry = refl;
    end = refl;
    last = refl;
    one_short = refl;
    one_long = refl;
  },
  record {
    case_1 = record { accepted = refl; leaves = refl };
    case_3 = record { accepted = refl; leaves = refl };
    entry = record { accepted = refl; leaves = refl };
    end = record { accepted = refl; leaves = refl };
    capacity_0 = record { accepted = refl; leaves = refl };
    capacity_1 = record { accepted = refl; leaves = refl };
    capacity_2 = record { accepted = refl; leaves = refl };
    capacity_65535 = record { accepted = refl; leaves = refl };
    capacity_65536 = record { accepted = refl; leaves = refl };
    case_5 = refl;
    late = refl;
    past = refl;
    long = refl;
  },
)

pub downstream_cases : DownstreamCases
downstream_cases = all.0

pub drop_cases : DropCases
drop_cases = all.1

pub exit_cases : ExitCases
exit_cases = all.2

pub search_cases : SearchCases
search_cases = all.3
