-- The worked cases, one proved list: each holds by computation.
use mathlib.Core.Path.{refl}
use Rattle.tables.specs.First.{first}
use Rattle.tables.specs.Grid.{cell, grid}
use Rattle.tables.specs.Least.{least_from}
use Rattle.tables.specs.Sum.{sum}
use Rattle.tables.specs.Tabulate.{tabulate}
use Rattle.road.specs.Step.{discharge, sending, exit, through, offer, receiving, passed, merge, flows_with, outflow, moved}
use Rattle.road.specs.Run.{supply, junction, inflow, next, cost}
use Rattle.settings.specs.Rate.{full_flows, gives, rate_for}
use Rattle.settings.specs.Setting.{held_limit, setting_for}
use Rattle.settings.proofs.Cases.{cases as node_cases}
use Rattle.seals.proofs.Cases.{cases as file_cases}
use Rattle.lists.specs.Words.{links_of, by_kind, node_at, steps_of, road_of, plan_of, plan_word, plan_words, trace_of, exit_said, record_width}
use Rattle.faults.specs.Lists.{link_fault, ramp_fault, start_fault, demand_fault}
use Rattle.lengths.specs.Lengths.{corridor_sized, demands_sized, record_sized, sizes}
use Rattle.list_scans.specs.Refusals.{fresh, link_refusal, ramp_refusal, start_refusal, demand_refusal, ranges}
use Rattle.simulate.proofs.Case.{case_1}
use Rattle.record_faults.specs.Records.{fixed_fault, next_fault, step_fault, total_fault}
use Rattle.convert.specs.Refusals.{cost_fault, judged}
use Rattle.convert.specs.Convert.{setting_at, plan_for, converted_by, convert_answer}
use Rattle.demands.specs.Cases.{Cases}

pub cases : Cases
unfolding first cell grid least_from sum tabulate discharge sending exit through offer receiving passed merge flows_with outflow moved supply junction inflow next cost full_flows gives rate_for held_limit setting_for links_of by_kind node_at steps_of road_of plan_of plan_word plan_words trace_of exit_said record_width corridor_sized demands_sized record_sized sizes link_fault fresh ramp_fault start_fault demand_fault link_refusal ramp_refusal start_refusal demand_refusal ranges fixed_fault next_fault step_fault total_fault cost_fault judged setting_at plan_for converted_by convert_answer
cases =
    record {
      case_1_sending = node_cases.case_1_sending;
      case_1_total = refl;
      case_1_supply = node_cases.case_1_supply;
      case_1_accepted = case_1.accepted;
      case_1 = case_1.simulates;
      case_2 = record { accepted = refl; plans = refl };
      case_2_below = node_cases.case_2_below;
      case_3 = record { accepted = refl; plans = refl };
      case_3_below = refl;
      case_4 = record { accepted = refl; plans = refl };
      case_5 = refl;
      case_6 = record { accepted = refl; plans = refl };
      case_7 = record { accepted = refl; plans = refl };
      case_8 = record { accepted = refl; plans = refl };
      case_9 = node_cases.case_9;
      case_9_full = node_cases.case_9_full;
      case_10 = node_cases.case_10;
      case_10_check = file_cases.case_10;
    }
