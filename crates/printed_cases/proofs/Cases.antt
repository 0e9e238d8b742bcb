-- What the program prints for B's records, by computation.
use mathlib.Core.Path.{refl}
use Rattle.tables.specs.First.{first}
use Rattle.tables.specs.Grid.{cell, grid, row_words}
use Rattle.tables.specs.Least.{least_from}
use Rattle.tables.specs.Sum.{sum}
use Rattle.tables.specs.Tabulate.{tabulate}
use Rattle.road.specs.Step.{discharge, sending, exit, through, offer, receiving, passed, merge, flows_with, outflow, moved}
use Rattle.road.specs.Run.{supply, junction, inflow, next, cost}
use Rattle.settings.specs.Rate.{full_flows, gives, rate_for}
use Rattle.settings.specs.Setting.{held_limit, setting_for}
use Rattle.lists.specs.Words.{links_of, by_kind, node_at, steps_of, road_of, trace_of, exit_said, record_width}
use Rattle.faults.specs.Lists.{link_fault, ramp_fault, start_fault, demand_fault}
use Rattle.lengths.specs.Lengths.{corridor_sized, demands_sized, record_sized, sizes}
use Rattle.list_scans.specs.Refusals.{fresh, link_refusal, ramp_refusal, start_refusal, demand_refusal, ranges}
use Rattle.record_faults.specs.Records.{fixed_fault, next_fault, step_fault, total_fault}
use Rattle.convert.specs.Refusals.{cost_fault, judged}
use Rattle.convert.specs.Convert.{setting_at, check_answer}
use Rattle.payload.specs.Word.{word_at}
use Rattle.payload.specs.Block.{check_word, body_word, block_word}
use Rattle.payload.specs.File.{file_of, payload_word}
use Rattle.seals.specs.Reading.{length_answer, block_answer, padding_answer, payload_answer}
use Rattle.block.specs.Kinds.{kind_number, list_length, own_agrees, later, kind_word, file_kind}
use Rattle.block.specs.Calls.{file_answer}
use Rattle.files.specs.Files.{files_answer, read_then_check}
use Rattle.printed.specs.Input.{links_in, demands_block, steps_in, demands_kind, record_block, record_kind, end_block, input_answer}
use Rattle.printed.specs.Text.{decimal_in, decimal, spaced, plan_word, refused_word, letter, refused_line, input_road, input_trace, head_line, setting_line, plan_line, lines_of, step_text, plan_text, printed}
use Rattle.printed_cases.specs.Cases.{Cases}

pub cases : Cases
unfolding first cell grid row_words least_from sum tabulate discharge sending exit through offer receiving passed merge flows_with outflow moved supply junction inflow next cost full_flows gives rate_for held_limit setting_for links_of by_kind node_at steps_of road_of trace_of exit_said record_width corridor_sized demands_sized record_sized sizes link_fault fresh ramp_fault start_fault demand_fault link_refusal ramp_refusal start_refusal demand_refusal ranges fixed_fault next_fault step_fault total_fault cost_fault judged setting_at check_answer word_at check_word body_word block_word file_of payload_word length_answer block_answer padding_answer payload_answer kind_number list_length own_agrees later kind_word file_kind file_answer files_answer read_then_check links_in demands_block steps_in demands_kind record_block record_kind end_block input_answer decimal_in decimal spaced plan_word refused_word letter refused_line input_road input_trace head_line setting_line plan_line lines_of step_text plan_text printed
cases =
    record {
      case_1 = refl;
      case_5 = refl;
      case_1_with_exits = refl;
      held_at_node_2 = refl;
      refused_at_node_2 = refl;
      full_with_a_drop = refl;
      refused_with_a_drop = refl;
    }
